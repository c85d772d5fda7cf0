-- The part is added to those before it.
use Rattle.std.proofs.{Common.{◌≡◌, ◌∙◌, ◌+◌, ◌*◌, ◌≤◌, List, All, length, map, refl, sym, ap, subst, arith}, lemmas.List.{length-map, FromFn.length-map-range_with_len}}
use Rattle.{koth_text.specs.declared.tally.Tally.Tally, koth_standings.{specs.{Parts.sums_of, PartText.{head_parts, part_parts, row_parts, tallies}, Standings.{at_place, both, most_rounds, rounds_in}}, proofs.PartsJoined.{joined_more, same_tallies}}}
use Rattle.koth_standings.proofs.joining.join_part.Goals as goal

pub add_part-requires-clause-few : goal.add_part-requires-clause-few
add_part-requires-clause-few g c = omega (arith, c.matches.ensures, c.has_room.ensures c.if-not-has_room.false)

pub returns-clause-parts : goal.returns-clause-parts
returns-clause-parts g c parts next are =
    let p = part_parts c.args.part.now in
    let rows = c.args.part.now.rows.items in
    let counts : c.as_slice-3.result.now ≡ tallies p = c.as_slice-3.ensures.value ∙ c.in-Ok.ensures ∙ ap (λ l. map (λ r. r.tally) l) c.as_slice.ensures.value ∙ sym (same_tallies rows) in
    let many : length p.rows ≡ length c.args.standings.now.counts = length-map rows row_parts ∙ sym (ap (λ l. length l) c.as_slice.ensures.value) ∙ c.as_slice.ensures.len ∙ sym c.len-many.ensures ∙ c.if-many-places.false ∙ c.places.ensures in
    joined_more (head_parts c.args.first) (length c.args.standings.now.counts) c.args.number parts p c.args.standings.now c.add_part.new.self c.as_slice-3.result.now
    next (c.is_part_of.ensures c.if-not-is_part_of.false) many counts (λ is. c.add_part.ensures.sums (map tallies parts) is) are

pub returns-clause-places : goal.returns-clause-places
returns-clause-places g c =
    let old = c.args.standings.now.counts in
    ap (λ l. length l) c.add_part.ensures.value ∙ length-map-range_with_len (λ place. both (at_place old place) (at_place c.as_slice-3.result.now place)) 0 (length old)
