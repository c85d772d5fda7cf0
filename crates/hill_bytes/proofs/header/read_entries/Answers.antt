use Rattle.std.proofs.{Common.{◌≡◌, ◌≤◌, ◌<◌, ◌^◌, ◌+◌, ◌*◌, ◌++◌, length, take, drop, get_or, arith, sym, ap, ◌∙◌}, lemmas.List.{drop-drop, length-set, take_all}}
use Rattle.{std.proofs.lemmas.List.Elements.All-get_or, hill_bytes.specs.{declared.header.HeaderEntry.HeaderEntry, Layout.entry_bytes}, hill_bytes.proofs.HeaderBytes.{place-at, set-step}}
use Rattle.hill_bytes.proofs.header.read_entries.Goals as goal

pub loop-i-preserved : goal.loop-i-preserved
loop-i-preserved c = record {
  read = λ es rest size fits stands.
      let i = c.loop-i.i in
      let e = c.read_entry.result in
      let inside : i < length es = omega arith in
      let few : length es ≤ 20 = omega arith in
      let room : i < length c.loop-i.places = omega arith in
      let place = place-at 20 es i e rest inside few in
      let there : drop (50 + 17 * i) c.args.bytes.now ≡ entry_bytes (get_or es i e) ++ place.0 =
      sym (drop-drop (17 * i) 50 c.args.bytes.now) ∙ ap (drop (17 * i)) stands ∙ place.1 in
      let own = All-get_or (λ (x : HeaderEntry). (x.entry < 2 ^ 64) × (x.age < 2 ^ 64)) es i e inside fits in
      let is : e ≡ get_or es i e = c.read_entry.ensures (get_or es i e) place.0 own.0 own.1 there in
      set-step c.loop-i.places es i e room inside (c.loop-i.invariant.read es rest size fits stands) is;
  len = length-set c.loop-i.places c.loop-i.i c.read_entry.result ∙ c.loop-i.invariant.len;
}

pub returns : goal.returns
returns c = λ es rest size fits stands.
    let same : c.loop-i.i ≡ c.args.count = omega arith in
    ap (λ n. take n c.loop-i.places) (sym same) ∙ c.loop-i.invariant.read es rest size fits stands ∙ take_all c.loop-i.i es (omega arith)
