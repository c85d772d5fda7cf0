use Rattle.std.proofs.{Common.{◌∙◌, ◌-◌, ap, arith, drop, length, sym, take, if◌then◌else◌, Some, None}, lemmas.List.{take_rest}, lemmas.Grind.{common_steps}}
use Rattle.{std.specs.List.{before_first}, koth_http.specs.{Host.{authority_of, path_or_root}, Target.{is_slash}}}
use Rattle.koth_http.proofs.host.parts_of.Goals as goal

pub returns-then-not-is_absolute : goal.returns-then-not-is_absolute
returns-then-not-is_absolute c =
    let t = c.args.target.now in
    let is = sym (sym c.is_absolute.ensures ∙ c.if-not-is_absolute.true) in
    record {
      host = ap (λ b. if b then Some (authority_of t) else None) is;
      origin = ap (λ b. if b then path_or_root (drop (length (authority_of t)) (drop 7 t)) else t) is;
    }

pub returns : goal.returns
returns c =
    let t = c.args.target.now in
    let is = sym (sym c.is_absolute.ensures ∙ c.if-not-is_absolute.false) in
    let rest = take_rest t 7 in
    let host = c.cut.ensures.before ∙ ap (before_first is_slash) rest in
    record {
      host = ap Some host ∙ ap (λ b. if b then Some (authority_of t) else None) is;
      origin = c.path_or_root.ensures ∙ ap path_or_root (take_rest (take (length t - 7) (drop 7 t)) (length c.cut.result.0.now) ∙ (λ i. drop (length (host i)) (rest i)))
          ∙ ap (λ b. if b then path_or_root (drop (length (authority_of t)) (drop 7 t)) else t) is;
    }

pub slice_bounds-rest-end : goal.slice_bounds-rest-end
slice_bounds-rest-end c = grind (arith, common_steps)

pub slice_bounds-path_or_root-end : goal.slice_bounds-path_or_root-end
slice_bounds-path_or_root-end c = grind (arith, common_steps)
