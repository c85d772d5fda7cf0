-- What a hill shows of its entrants.
use Rattle.{std.proofs.Common.{◌≡◌, ℕ, ◌<◌, true, false, List, length, map, get_or, sym, ap, ◌∙◌, arith, None, Some, slice_get}, std.specs.{Prelude.nat_lt, Option.option_map}}
use Rattle.std.proofs.{lemmas.Bool.{ltb-true, ltb-false}, lemmas.List.length-map, lemmas.Option.{slice_get-get_or, slice_get-map, slice_get_past}}
use Rattle.koth_hill.specs.{Hill.Member, Kept.{Kept, Entrant, members_of}}

pub shown-at : {X : Type 0} (f : Entrant → X) (es xs : List Entrant) (n : ℕ) (e : Entrant) → xs ≡ es → n < length xs → e ≡ get_or xs n e → slice_get (map f es) n ≡ Some (f e)
shown-at f es xs n e same within here =
    ap (λ (ys : List Entrant). slice_get (map f ys) n) (sym same) ∙ slice_get-map f xs n
    ∙ ap (option_map f) (slice_get-get_or xs n e within ∙ ap Some (sym here))

-- the member at a place, or none past the last one
module _ (seen now : Kept) (es xs : List Entrant) (view : seen ≡ now) (members : members_of es ≡ seen.members) (same : xs ≡ es) where
  pub member-shown : (n : ℕ) (e : Entrant) (m : Member) → true ≡ nat_lt n (length xs) → e ≡ get_or xs n e → m ≡ e.member → Some m ≡ slice_get now.members n
  member-shown n e m within here is =
      ap Some is ∙ sym (shown-at (λ (x : Entrant). x.member) es xs n e same (ltb-true n (length xs) (sym within)) here)
      ∙ ap (λ (ms : List Member). slice_get ms n) (members ∙ ap (λ (k : Kept). k.members) view)

  pub no-member : (n : ℕ) → false ≡ nat_lt n (length xs) → None ≡ slice_get now.members n
  no-member n past =
      sym (slice_get_past (members_of es) n (omega (arith, ltb-false n (length xs) (sym past), ap length same, length-map es (λ (x : Entrant). x.member))))
      ∙ ap (λ (ms : List Member). slice_get ms n) (members ∙ ap (λ (k : Kept). k.members) view)
