-- Texts that are put one after another.
use Rattle.{std.proofs.{Common.{◌≡◌, ◌∙◌, ℕ, List, ◌++◌, Result, Ok, Err, ap}, lemmas.List.append_assoc}, std.specs.Prelude.OnOk}

-- what holds on success, seen another way
on_ok : {T E : Type 0} (r : Result T E) (P Q : Type 0) → (P → Q) → OnOk r P → OnOk r Q
on_ok (Ok x) P Q holds p = holds p
on_ok (Err e) P Q holds p = p

pub four_parts : {T E : Type 0} (r : Result T E) (t t1 t2 t3 t4 a b c d : List ℕ) → t1 ≡ t ++ a → t2 ≡ t1 ++ b → t3 ≡ t2 ++ c → OnOk r (t4 ≡ t3 ++ d)
    → OnOk r (t4 ≡ t ++ (a ++ b ++ c ++ d))
four_parts r t t1 t2 t3 t4 a b c d e1 e2 e3 e4 =
    let so_far : t3 ≡ ((t ++ a) ++ b) ++ c = cc in
    let regrouped : (((t ++ a) ++ b) ++ c) ++ d ≡ t ++ (a ++ b ++ c ++ d) = simp append_assoc in
    on_ok r (t4 ≡ t3 ++ d) (t4 ≡ t ++ (a ++ b ++ c ++ d)) (λ e. e ∙ ap (λ x. x ++ d) so_far ∙ regrouped) e4

pub five_parts : {T E : Type 0} (r : Result T E) (t t1 t2 t3 t4 t5 a b c d f : List ℕ) → t1 ≡ t ++ a → t2 ≡ t1 ++ b → t3 ≡ t2 ++ c → t4 ≡ t3 ++ d
    → OnOk r (t5 ≡ t4 ++ f) → OnOk r (t5 ≡ t ++ (a ++ b ++ c ++ d ++ f))
five_parts r t t1 t2 t3 t4 t5 a b c d f e1 e2 e3 e4 e5 =
    let so_far : t4 ≡ (((t ++ a) ++ b) ++ c) ++ d = cc in
    let regrouped : ((((t ++ a) ++ b) ++ c) ++ d) ++ f ≡ t ++ (a ++ b ++ c ++ d ++ f) = simp append_assoc in
    on_ok r (t5 ≡ t4 ++ f) (t5 ≡ t ++ (a ++ b ++ c ++ d ++ f)) (λ e. e ∙ ap (λ x. x ++ f) so_far ∙ regrouped) e5
