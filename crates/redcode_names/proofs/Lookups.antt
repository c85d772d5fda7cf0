-- The labels and the EQUs of a map.
use Rattle.std.proofs.{Common.{◌≡◌, ℕ, Vec, List, [], ◌∷◌, map, refl, arith}, lemmas.List.{length-map, map-append}}
use Rattle.{std.specs.{Map.lookup, Option.{is_some, option_map_or}}, std.proofs.lemmas.Option.slice_get-map, std.specs.Str.bytes_eq, indexmap.proofs.CallerLemmas.insert_entry-new}
use Rattle.{redcode_text.specs.{declared.token.Token.Token, Tokens.pieces}, redcode_names.specs.{Written.bodies_of, Equ.{EquList, is_equ, body_of}, Name.{LabelList, address_of}}}

-- what a map finds is the address of the label
pub lookup-address_of : (name : List ℕ) (labels : LabelList) → lookup (bytes_eq name) labels ≡ address_of labels name
lookup-address_of name [] = refl
lookup-address_of name (label ∷ labels) = rw (lookup-address_of name labels) refl

-- a map with names as keys, seen as a list of EQUs
abbrev pub equs_of : {A : Type 0} → List (List ℕ × Vec Token A) → EquList
equs_of entries = map (λ entry. (entry.0, pieces entry.1.items)) entries

-- a name that a map finds is that of an EQU
pub lookup-is_equ : {A : Type 0} (name : List ℕ) (entries : List (List ℕ × Vec Token A)) → is_equ (equs_of entries) name ≡ is_some (lookup (bytes_eq name) entries)
lookup-is_equ name [] = refl
lookup-is_equ name (entry ∷ entries) = grind (arith, lookup-is_equ name entries)

-- what a map finds is the body of the name
pub lookup-body_of : {A : Type 0} (name : List ℕ) (entries : List (List ℕ × Vec Token A))
    → body_of (equs_of entries) name ≡ option_map_or (λ body. pieces body.items) (lookup (bytes_eq name) entries) []
lookup-body_of name [] = refl
lookup-body_of name (entry ∷ entries) = grind (arith, lookup-body_of name entries)

pub bodies-seen : {A : Type 0} (entries : List (List ℕ × Vec Token A)) → bodies_of (equs_of entries) ≡ map (λ body. pieces body.items) (map (λ entry. entry.1) entries)
bodies-seen [] = refl
bodies-seen (entry ∷ entries) = rw (bodies-seen entries) refl

pub ruleset names = (lookup-address_of, lookup-is_equ, lookup-body_of, bodies-seen, insert_entry-new, map-append, slice_get-map)

pub ruleset none = (length-map)
