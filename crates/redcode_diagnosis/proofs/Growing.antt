-- Refusals that stand after others.
use Rattle.std.proofs.{Common.{◌≡◌, ◌∙◌, ℕ, ◌<◌, false, List, [], ◌∷◌, ◌++◌, All, length, map, ap, sym, subst, append-nil, append_assoc}, lemmas.List.{length-map, map-append}, lemmas.List.Elements.{All-append, All-cons, All-nil}}
use Rattle.{war_types.specs.declared.fault.AsmFault.AsmFault, redcode_lines.specs.Place.{IsPlaceIn, line_text}, redcode_scene.specs.Faults.is_told}
use Rattle.redcode_diagnosis.{specs.{declared.diagnosis.Diagnosis.Diagnosis, Told.AreOnePerLine, Further.{ArePlaced, PutsFurther}}, proofs.Once.once-pushed}

abbrev IsPlaced : {A : Type 0} → List ℕ → Diagnosis A → Type 0
IsPlaced source d = IsPlaceIn (line_text source d.fault.line) d.column d.width

pub nothing : {A : Type 0} (source : List ℕ) (all : List (Diagnosis A)) → PutsFurther source all all
nothing source all = record { others = []; grown = sym (append-nil all); placed = All-nil (IsPlaced source); once = λ are. are }

pub one_more : {A : Type 0} (source : List ℕ) (old new : List (Diagnosis A)) (d : Diagnosis A) → new ≡ old ++ d ∷ [] → IsPlaced source d
    → length old < 100 → is_told (map (λ d. d.fault) old) d.fault.line ≡ false → PutsFurther source old new
one_more source old new d is placed few untold = record {
  others = d ∷ [];
  grown = is;
  placed = All-cons (IsPlaced source) d [] placed (All-nil (IsPlaced source));
  once = λ are. rw (is, map-append (λ d. d.fault) old (d ∷ []))
      (once-pushed (map (λ d. d.fault) old) d.fault (rw (length-map old (λ d. d.fault)) few) untold are);
}

pub after : {A : Type 0} (source : List ℕ) (a b c : List (Diagnosis A)) → PutsFurther source a b → PutsFurther source b c → PutsFurther source a c
after source a b c first second = record {
  others = first.others ++ second.others;
  grown = second.grown ∙ ap (λ t. t ++ second.others) first.grown ∙ append_assoc a first.others second.others;
  placed = All-append (IsPlaced source) first.others second.others first.placed second.placed;
  once = λ are. second.once (first.once are);
}

-- after those that are told stand others, and all are placed
pub others_told : {A : Type 0} (source : List ℕ) (old new : List (Diagnosis A)) (due : List AsmFault) → PutsFurther source old new → map (λ d. d.fault) old ≡ due
    → AreOnePerLine due → (others : List AsmFault) × (map (λ d. d.fault) new ≡ due ++ others) × AreOnePerLine (map (λ d. d.fault) new)
others_told source old new due puts are once = (
  map (λ d. d.fault) puts.others,
  ap (map (λ d. d.fault)) puts.grown ∙ map-append (λ d. d.fault) old puts.others ∙ ap (λ t. t ++ map (λ d. d.fault) puts.others) are,
  puts.once (rw are once),
)

pub all_placed : {A : Type 0} (source : List ℕ) (old new : List (Diagnosis A)) → PutsFurther source old new → ArePlaced source old → ArePlaced source new
all_placed source old new puts placed = subst (All (IsPlaced source)) (sym puts.grown) (All-append (IsPlaced source) old puts.others placed puts.placed)
