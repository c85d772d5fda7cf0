-- A text more.
use Rattle.std.proofs.{Common.{◌≡◌, ◌∙◌, ◌<◌, ◌+◌, ◌++◌, ℕ, List, [], ◌∷◌, ap, append-nil, append_assoc, get_or, length, refl, subst, sym, take}, lemmas.List.take_more}
use Rattle.koth_kinds.specs.{Explained.AreTexts, declared.kind.Kind.Kind}

-- those of two lists, one after the other
texts_both : (IsText : Kind → List ℕ → Type 0) (ks ls : List Kind) (text more : List ℕ) → AreTexts IsText ks text → AreTexts IsText ls more
    → AreTexts IsText (ks ++ ls) (text ++ more)
texts_both IsText [] ls text more none texts = subst (λ t. AreTexts IsText ls (t ++ more)) (sym none) texts
texts_both IsText (k ∷ ks) ls text more (first, rest, one, others, split) texts =
    (first, rest ++ more, one, texts_both IsText ks ls rest more others texts, ap (λ t. t ++ more) split ∙ append_assoc first rest more)

pub next_text : (IsText : Kind → List ℕ → Type 0) (all : List Kind) (i : ℕ) (d : Kind) (text part new : List ℕ) → i < length all
    → AreTexts IsText (take i all) text → IsText (get_or all i d) part → new ≡ text ++ part → AreTexts IsText (take (i + 1) all) new
next_text IsText all i d text part new within texts one grown =
    let k = get_or all i d in
    let more = texts_both IsText (take i all) (k ∷ []) text part texts (part, [], one, refl, sym (append-nil part)) in
    subst (λ ks. AreTexts IsText ks new) (sym (take_more all i d within)) (subst (AreTexts IsText (take i all ++ k ∷ [])) (sym grown) more)
