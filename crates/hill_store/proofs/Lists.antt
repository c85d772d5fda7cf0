-- Submissions one after another, one more at a time.
use Rattle.std.proofs.Common.{zero, suc, Bor, Result, is_ok, if◌then◌else◌, ◌≡◌, ℕ, ◌+◌, ◌<◌, ◌≤◌, true, false, List, [], ◌∷◌, ◌++◌, length, take, drop, get_or, refl, sym, ap, subst, ◌∙◌}
use Rattle.{std.proofs.{Common.{arith, append_assoc}, lemmas.List.{take_more, take_all, take-append-drop}}, sector_disk.specs.Facts.DeviceFacts}
use Rattle.hill_store.specs.{declared.reply.Reply.Reply, Seen.Seen, Runs.{is_disk, texts, IsSubmitted, RunsOn, Runs}}

-- so far no reply was `Disk`
abbrev pub RunsOpen : {D : Type 0} → DeviceFacts D → Seen D → List (List ℕ) → List Reply → Seen D → Type 0
RunsOpen facts old [] [] new = new ≡ old
RunsOpen facts old [] (reply ∷ rest) new = ⊥
RunsOpen facts old (source ∷ sources) [] new = ⊥
RunsOpen {D} facts old (source ∷ sources) (reply ∷ rest) new =
    (mid : Seen D) × IsSubmitted facts old source reply mid × (is_disk reply ≡ false) × RunsOpen facts mid sources rest new

open_more : {D : Type 0} (facts : DeviceFacts D) (old mid new : Seen D) (xs : List (List ℕ)) (rs : List Reply) (x : List ℕ) (r : Reply) → RunsOpen facts old xs rs mid → IsSubmitted facts mid x r new → is_disk r ≡ false → RunsOpen facts old (xs ++ x ∷ []) (rs ++ r ∷ []) new
open_more facts old mid new [] [] x r runs submits goes = (new, subst (λ s. IsSubmitted facts s x r new) runs submits, goes, refl)
open_more facts old mid new [] (q ∷ rs) x r runs submits goes = absurd runs
open_more facts old mid new (y ∷ xs) [] x r runs submits goes = absurd runs
open_more facts old mid new (y ∷ xs) (q ∷ rs) x r runs submits goes =
    (runs.0, runs.1, runs.2, open_more facts runs.0 mid new xs rs x r runs.3 submits goes)

pub open_end : {D : Type 0} (facts : DeviceFacts D) (old new : Seen D) (xs : List (List ℕ)) (rs : List Reply) → RunsOpen facts old xs rs new → Runs facts old xs rs new
open_end facts old new [] [] runs = runs
open_end facts old new [] (q ∷ rs) runs = absurd runs
open_end facts old new (y ∷ xs) [] runs = absurd runs
open_end facts old new (y ∷ xs) (q ∷ rs) runs =
    (runs.0, runs.1, subst (λ b. RunsOn facts b runs.0 xs rs new) (sym runs.2) (open_end facts runs.0 new xs rs runs.3))

pub open_cut : {D : Type 0} (facts : DeviceFacts D) (old mid new : Seen D) (xs left : List (List ℕ)) (rs : List Reply) (x : List ℕ) (r : Reply) → RunsOpen facts old xs rs mid → IsSubmitted facts mid x r new → is_disk r ≡ true → Runs facts old (xs ++ x ∷ left) (rs ++ r ∷ []) new
open_cut facts old mid new [] left [] x r runs submits cut =
    (new, subst (λ s. IsSubmitted facts s x r new) runs submits, subst (λ b. RunsOn facts b new left [] new) (sym cut) refl)
open_cut facts old mid new [] left (q ∷ rs) x r runs submits cut = absurd runs
open_cut facts old mid new (y ∷ xs) left [] x r runs submits cut = absurd runs
open_cut facts old mid new (y ∷ xs) left (q ∷ rs) x r runs submits cut =
    (runs.0, runs.1, subst (λ b. RunsOn facts b runs.0 (xs ++ x ∷ left) (rs ++ r ∷ []) new) (sym runs.2) (open_cut facts runs.0 mid new xs left rs x r runs.3 submits cut))

-- with the source at a place
pub open_next : {D : Type 0} (facts : DeviceFacts D) (old mid new : Seen D) (xs : List (List ℕ)) (i : ℕ) (rs more : List Reply) (x : List ℕ) (r : Reply) → i < length xs → x ≡ get_or xs i [] → more ≡ rs ++ r ∷ [] → RunsOpen facts old (take i xs) rs mid → IsSubmitted facts mid x r new → is_disk r ≡ false → RunsOpen facts old (take (i + 1) xs) more new
open_next facts old mid new xs i rs more x r below at is runs submits goes =
    subst (λ ys. RunsOpen facts old ys more new) (ap (λ y. take i xs ++ y ∷ []) at ∙ sym (take_more xs i [] below))
    (subst (λ qs. RunsOpen facts old (take i xs ++ x ∷ []) qs new) (sym is) (open_more facts old mid new (take i xs) rs x r runs submits goes))

split_at : (xs : List (List ℕ)) (i : ℕ) → i < length xs → (take i xs ++ get_or xs i [] ∷ []) ++ drop (i + 1) xs ≡ xs
split_at xs i below = ap (λ ys. ys ++ drop (i + 1) xs) (sym (take_more xs i [] below)) ∙ take-append-drop (i + 1) xs

pub cut_next : {D : Type 0} (facts : DeviceFacts D) (old mid new : Seen D) (xs : List (List ℕ)) (i : ℕ) (rs more : List Reply) (x : List ℕ) (r : Reply) → i < length xs → x ≡ get_or xs i [] → more ≡ rs ++ r ∷ [] → RunsOpen facts old (take i xs) rs mid → IsSubmitted facts mid x r new → is_disk r ≡ true → Runs facts old xs more new
cut_next facts old mid new xs i rs more x r below at is runs submits cut =
    subst (λ ys. Runs facts old ys more new) (ap (λ y. take i xs ++ y ∷ drop (i + 1) xs) at ∙ sym (append_assoc (take i xs) (get_or xs i [] ∷ []) (drop (i + 1) xs)) ∙ split_at xs i below)
    (subst (λ qs. Runs facts old (take i xs ++ x ∷ drop (i + 1) xs) qs new) (sym is) (open_cut facts old mid new (take i xs) (drop (i + 1) xs) rs x r runs submits cut))

pub all_next : {D : Type 0} (facts : DeviceFacts D) (old new : Seen D) (xs : List (List ℕ)) (i : ℕ) (rs : List Reply) → length xs ≤ i → RunsOpen facts old (take i xs) rs new → Runs facts old xs rs new
all_next facts old new xs i rs past runs = open_end facts old new xs rs (subst (λ ys. RunsOpen facts old ys rs new) (take_all i xs past) runs)

pub texts_length : (xs : List (Bor (List ℕ))) → length (texts xs) ≡ length xs
texts_length [] = refl
texts_length (x ∷ xs) = ap suc (texts_length xs)

pub text_at : (xs : List (Bor (List ℕ))) (i : ℕ) (d : Bor (List ℕ)) → i < length xs → (get_or xs i d).now ≡ get_or (texts xs) i []
text_at [] i d below = absurd (omega (arith, below))
text_at (x ∷ xs) zero d below = refl
text_at (x ∷ xs) (suc i) d below = text_at xs i d (omega (arith, below))

pub pushed : {T E : Type 0} (r : Result T E) (old new items : List Reply) → is_ok r ≡ true → items ≡ (if is_ok r then new else old) → items ≡ new
pushed r old new items ok is = is ∙ ap (λ b. if b then new else old) ok
