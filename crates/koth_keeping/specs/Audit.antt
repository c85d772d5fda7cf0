-- What `audit` answers.
use Rattle.std.specs.Prelude.{◌≡◌, ℕ, List, Option, None, Some, ◌++◌, [], codes, decimal}
use Rattle.{koth_match.specs.declared.bout.Bout.Bout, koth_hill.specs.{Kept.{Kept, AreTrue, AreTrueBefore, IsUntrue}, declared.untrue.Untrue.Untrue}}
use Rattle.{koth_json.specs.Reply.audit_line, koth_words.specs.declared.requests.View.View}
use Rattle.koth_commands.specs.{Answer.{AnswerParts, answer_parts}, declared.status.Status.Status}

-- three counts of a match after a word
abbrev pub counts_line : List ℕ → Bout → List ℕ
counts_line word b = word ++ decimal b.older_wins ++ codes " " ++ decimal b.younger_wins ++ codes " " ++ decimal b.ties ++ codes "\n"

-- the pair, by its entries, the result that is kept of it, and the result of its match
abbrev pub pair_line : ℕ → ℕ → List ℕ
pair_line older younger = codes "PAIR " ++ decimal older ++ codes " " ++ decimal younger ++ codes "\n"

abbrev pub untrue_text : Untrue → List ℕ
untrue_text u = pair_line u.older u.younger ++ (counts_line (codes "KEPT ") u.kept ++ counts_line (codes "FOUGHT ") u.fought)

-- what an audit of a hill finds: nothing only if each result that the hill keeps is its match's, else the first that
-- isn't
abbrev pub IsAudited : Kept → Option Untrue → Type 0
IsAudited hill None = AreTrue hill
IsAudited hill (Some u) = IsUntrue hill u.older u.younger u.kept u.fought × AreTrueBefore hill u.older u.younger

-- true or false
abbrev pub plain_line : Option Untrue → List ℕ
plain_line None = codes "true\n"
plain_line (Some u) = codes "false\n"

-- what an audit that found this says
abbrev pub audit_text : View → Option Untrue → List ℕ
audit_text View.Plain found = plain_line found
audit_text View.Table found = plain_line found
audit_text View.Json found = audit_line found

-- the answer to an audit that found this
abbrev pub audit_answer : View → Option Untrue → AnswerParts
audit_answer view None = answer_parts Status.Done (audit_text view None) []
audit_answer view (Some u) = answer_parts Status.Refused (audit_text view (Some u)) (untrue_text u)

-- the answer to an audit of this hill
abbrev pub AuditsOf : View → Kept → AnswerParts → Type 0
AuditsOf view hill answer = (found : Option Untrue) × IsAudited hill found × (answer ≡ audit_answer view found)

-- the answer to an audit of some hill
abbrev pub SaysAudit : View → AnswerParts → Type 0
SaysAudit view answer = (hill : Kept) × AuditsOf view hill answer
