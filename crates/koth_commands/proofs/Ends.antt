-- What `asm` does, from what it reads and what it answers.
use Rattle.{std.proofs.Common.{◌≡◌, ◌∙◌, ℕ, Bool, false, List, [], Option, None, Result, Ok, Err, MatchResult, Some, inl, inr, subst, sym, ap}, std.proofs.KnownBytes.Keeps-refl, war_types.specs.declared.settings.{RawSettings.RawSettings, SettingsFault.SettingsFault}}
use Rattle.koth_commands.specs.{Answer.AnswerParts, Asm.{IsAssembled, IsDone, IsDoneFrom, Wanted}, Define.{HasNoText, IsUndefined, text_by}, Streams.Takes, Trouble.no_memory}
use Rattle.koth_commands.{specs.declared.trouble.Trouble.Trouble, proofs.Sources.whole_input}

-- a source that was read is answered, by the text that is assembled for it
pub answered : (wanted : Wanted) (s : RawSettings) (source text : List ℕ) (done : Result AnswerParts Trouble) (i j : Option (List ℕ)) → text_by wanted.define source ≡ Some text
    → MatchResult done (IsAssembled wanted.listing s text) (λ trouble. trouble ≡ no_memory) → Takes i j source → IsDone wanted s done i j
answered wanted s source text (Ok answer) i j defined comes taken = record {
  source = source;
  taken = taken;
  text = text;
  defined = defined;
  comes = comes;
  whole = whole_input s wanted.define i j source text taken defined;
}
answered wanted s source text (Err trouble) i j defined comes taken = inl (inr comes, (source, taken.bytes))

-- the same, if the text is known by another name
pub performed : (wanted : Wanted) (s : RawSettings) (source text read : List ℕ) (done : Result AnswerParts Trouble) (i j : Option (List ℕ)) → read ≡ text → text_by wanted.define source ≡ Some text
    → MatchResult done (IsAssembled wanted.listing s read) (λ trouble. trouble ≡ no_memory) → Takes i j source → IsDone wanted s done i j
performed wanted s source text read done i j is defined comes taken = answered wanted s source read done i j (defined ∙ ap Some (sym is)) comes taken

-- nothing is assembled for a source, or memory ran out
pub undefined : (define : Option (List ℕ)) (source : List ℕ) (trouble : Trouble) (wanted : Wanted) (s : RawSettings) (i j : Option (List ℕ)) → wanted.define ≡ define → IsUndefined define source trouble
    → Takes i j source → IsDone wanted s (Err trouble) i j
undefined define source trouble wanted s i j is (inl memory) taken = inl (inr memory, (source, taken.bytes))
undefined define source trouble wanted s i j is (inr none) taken = inr (source, taken, subst (λ d. HasNoText d source trouble) (sym is) none)

-- ---- a source of a file, of which no bytes are known

unknown_takes : (source : List ℕ) (i j : Option (List ℕ)) → Takes i j source → Takes None None source
unknown_takes source i j takes = record { bytes = tt; most = takes.most; whole = λ short. tt }

unknown_done : (wanted : Wanted) (s : RawSettings) (done : Result AnswerParts Trouble) (i j : Option (List ℕ)) → IsDone wanted s done i j → IsDone wanted s done None None
unknown_done wanted s (Ok answer) i j is = record {
  source = is.source;
  taken = unknown_takes is.source i j is.taken;
  text = is.text;
  defined = is.defined;
  comes = is.comes;
  whole = tt;
}
unknown_done wanted s (Err trouble) i j (inl (fault, taken)) = inl (fault, ([], tt))
unknown_done wanted s (Err trouble) i j (inr (source, taken, none)) = inr (source, unknown_takes source i j taken, none)

pub from_file : (of_input : Bool) (wanted : Wanted) (given : Result RawSettings SettingsFault) (s : RawSettings) (done : Result AnswerParts Trouble) (i j k : Option (List ℕ))
    → of_input ≡ false → given ≡ Ok s → IsDone wanted s done j k → IsDoneFrom of_input wanted given i i done
from_file of_input wanted given s done i j k of_file is ends =
    subst (λ b. IsDoneFrom b wanted given i i done) (sym of_file)
    (subst (λ r. IsDoneFrom false wanted r i i done) (sym is) (unknown_done wanted s done j k ends, Keeps-refl i))
