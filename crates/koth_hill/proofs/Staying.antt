-- Those that stay, one after another.
use Rattle.std.proofs.Common.{◌≡◌, ℕ, ◌+◌, ◌<◌, ◌≤◌, All, List, ◌++◌, length, map, take, drop, set, get_or, sym, ap, ap₂, subst, ◌∙◌, arith, Option}
use Rattle.std.proofs.{lemmas.List.{append-nil, drop_all, get_or-append-add, get_or-drop, length-map, length-take, take_all}, lemmas.List.Elements.All-get_or}
use Rattle.{std.proofs.lemmas.List.Edits.map_over_more, koth_hill.specs.Kept.{Entrant, stayed}}

pub stayed-more : (place : Option ℕ) (es now : List Entrant) (n : ℕ) (e grown : Entrant) → n < length es → now ≡ map (stayed place) (take n es) ++ drop n es → e ≡ get_or now n e →
    grown ≡ stayed place (get_or now n e) → set now n grown ≡ map (stayed place) (take (n + 1) es) ++ drop (n + 1) es
stayed-more place es now n e grown within are here is = rw (is ∙ ap (stayed place) (sym here)) (map_over_more (stayed place) es now n e within are here)

-- the next is as it was
pub age-left : (place : Option ℕ) (es now : List Entrant) (n : ℕ) (d : Entrant) (most : ℕ) → n < length es → now ≡ map (stayed place) (take n es) ++ drop n es → All (λ e. e.member.age + 1 < most) es → (get_or now n d).member.age + 1 < most
age-left place es now n d most within are young =
    let P : Entrant → Type 0 = λ e. e.member.age + 1 < most in
    let long : n ≡ length (map (stayed place) (take n es)) + 0 = omega (arith, within, length-map (take n es) (stayed place), length-take n es) in
    let here : n + 0 ≡ n = omega arith in
    subst P
    (sym (ap₂ (λ (xs : List Entrant) (i : ℕ). get_or xs i d) are long
    ∙ get_or-append-add (map (stayed place) (take n es)) (drop n es) 0 d ∙ get_or-drop n es 0 d ∙ ap (λ i. get_or es i d) here))
    (All-get_or P es n d within young)

pub all-stayed : (place : Option ℕ) (es now : List Entrant) (n : ℕ) → length es ≤ n → now ≡ map (stayed place) (take n es) ++ drop n es → now ≡ map (stayed place) es
all-stayed place es now n past are =
    are ∙ ap₂ (λ (xs ys : List Entrant). map (stayed place) xs ++ ys) (take_all n es past) (drop_all n es past) ∙ append-nil (map (stayed place) es)
