-- What is answered to a source, if nothing was read: for `submit` and `try`.
use Rattle.{std.proofs.Common.{◌≡◌, ◌∙◌, inl, inr, ℕ, Bool, true, false, List, [], Option, None, Some, Err, ap, refl}, std.proofs.KnownBytes.{Consumes-nil, Keeps-refl}}
use Rattle.koth_commands.specs.{Answer.AnswerParts, Define.{IsUndefined, fault_by, fault_of}, Streams.{From, Takes}, declared.trouble.{Fault.Fault, Trouble.Trouble}}
use Rattle.{koth_files.specs.Trouble.{IsOfHill, is_of_settings}, koth_hills.specs.{Hills.AnswersSource, Trials.AnswersTrial}}

-- there is no hill
pub no_hill : (of_input : Bool) (Says : List ℕ → AnswerParts → Type 0) (i : Option (List ℕ)) (trouble : Trouble) → IsOfHill trouble
    → From of_input (λ u v. AnswersSource Says u v (Err trouble)) i i
no_hill true Says i trouble of_hill = (of_hill, ([], Consumes-nil i))
no_hill false Says i trouble of_hill = ((of_hill, ([], Consumes-nil None)), Keeps-refl i)

-- the same, for `try`
pub no_trial : (of_input : Bool) (define : Option (List ℕ)) (Says : List ℕ → AnswerParts → Type 0) (i : Option (List ℕ)) (trouble : Trouble) → IsOfHill trouble
    → From of_input (λ u v. AnswersTrial define Says u v (Err trouble)) i i
no_trial true define Says i trouble of_hill = (of_hill, ([], Consumes-nil i))
no_trial false define Says i trouble of_hill = ((of_hill, ([], Consumes-nil None)), Keeps-refl i)

-- nothing is assembled for a source that was taken
of_none : (fault : Fault) (definition : Option (List ℕ × List ℕ)) → fault ≡ fault_of definition → is_of_settings fault ≡ false
of_none fault None is = ap is_of_settings is
of_none fault (Some definition) is = ap is_of_settings is

by_none : (define : Option (List ℕ)) (fault : Fault) → fault ≡ fault_by define → is_of_settings fault ≡ false
by_none None fault is = ap is_of_settings is
by_none (Some words) fault is = of_none fault _ is

pub undefined_answers : (define : Option (List ℕ)) (Says : List ℕ → AnswerParts → Type 0) (i j : Option (List ℕ)) (source : List ℕ) (trouble : Trouble) → IsUndefined define source trouble
    → Takes i j source → AnswersTrial define Says i j (Err trouble)
undefined_answers define Says i j source trouble (inl memory) taken = (ap (λ (t : Trouble). is_of_settings t.fault) memory, (source, taken.bytes))
undefined_answers define Says i j source trouble (inr (none, is)) taken = (by_none define trouble.fault is, (source, taken.bytes))
