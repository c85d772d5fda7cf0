-- A source that is taken has the outcome of the whole input.
use Rattle.std.proofs.{Common.{◌≡◌, ◌∙◌, ◌≤◌, ℕ, List, ◌++◌, Option, None, Some, IfSome, Err, inl, inr, arith, length, length-append, append-nil, lt-ltb, refl, sym, ap}, lemmas.Bool.cases_lt}
use Rattle.{std.specs.Prelude.unwrap_or, redcode_define.specs.{Define.defined, Definition.definition_of}, koth_commands.specs.{Asm.HasOutcomeOf, Define.{text_by, text_of}}}
use Rattle.{war_types.specs.{declared.fault.AsmKind.TheVariants.SourceTooLong, declared.settings.RawSettings.RawSettings}, redcode_asm.specs.Assembly.assembly}
use Rattle.{redcode_asm.proofs.Limits.too_long, koth_commands.specs.Streams.{Takes, read_limit}}

-- a source that is too long is refused for that
long_is_refused : (s : RawSettings) (source : List ℕ) → read_limit ≤ length source → assembly s source ≡ Err (record { line = 0; kind = SourceTooLong })
long_is_refused s source long = too_long s source (omega arith)

-- bytes past those that are read change nothing
longer : (s : RawSettings) (source rest : List ℕ) → read_limit ≤ length source → assembly s (source ++ rest) ≡ assembly s source
longer s source rest long =
    let all : read_limit ≤ length (source ++ rest) = omega (arith, length-append source rest) in
    long_is_refused s (source ++ rest) all ∙ sym (long_is_refused s source long)

-- and no definition changes them
stays : (source name value : List ℕ) → read_limit ≤ length source → defined source name value ≡ Some source
unfolding defined
stays source name value long = rw (lt-ltb 65536 (length source) (omega arith)) refl

some_same : (x y : List ℕ) → Some x ≡ Some y → x ≡ y
some_same x y is = ap (λ (o : Option (List ℕ)). unwrap_or o x) is

long_of : (definition : Option (List ℕ × List ℕ)) (source other text : List ℕ) → read_limit ≤ length source → read_limit ≤ length other
    → text_of definition source ≡ Some text → (text ≡ source) × (text_of definition other ≡ Some other)
long_of None source other text long also is = absurd (cc)
long_of (Some definition) source other text long also is = (
  sym (some_same source text (sym (stays source definition.0 definition.1 long) ∙ is)),
  stays other definition.0 definition.1 also,
)

long_by : (define : Option (List ℕ)) (source other text : List ℕ) → read_limit ≤ length source → read_limit ≤ length other
    → text_by define source ≡ Some text → (text ≡ source) × (text_by define other ≡ Some other)
long_by None source other text long also is = (sym (some_same source text is), refl)
long_by (Some words) source other text long also is = long_of (definition_of words) source other text long also is

pub whole_input : (s : RawSettings) (define : Option (List ℕ)) (old new : Option (List ℕ)) (source text : List ℕ) → Takes old new source → text_by define source ≡ Some text
    → IfSome old (HasOutcomeOf s define text)
whole_input s define None new source text taken is = tt
whole_input s define (Some input) None source text taken is = absurd taken.bytes
whole_input s define (Some input) (Some rest) source text taken is =
    elim (cases_lt (length source) read_limit) [
      | inl short ↦ (text, ap (text_by define) (taken.bytes ∙ ap (λ l. source ++ l) (taken.whole short) ∙ append-nil source) ∙ is, refl)
      | inr long ↦ (
          let all : read_limit ≤ length (source ++ rest) = omega (arith, length-append source rest) in
          let (same, whole) = long_by define source (source ++ rest) text long all is in
          (source ++ rest, ap (text_by define) taken.bytes ∙ whole, longer s source rest long ∙ ap (assembly s) (sym same))
          )
    ]
