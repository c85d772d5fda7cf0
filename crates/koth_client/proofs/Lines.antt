-- A source goes as a session takes it. For `submission_text`.
use Rattle.std.proofs.Common.{◌≡◌, ◌∙◌, ℕ, ◌==◌, ◌&&◌, Bool, true, false, if◌then◌else◌, List, [], ◌∷◌, ◌++◌, map, take, Option, None, Some, ap, refl, sym, subst, append-nil, append_assoc, eqb-true, codes}
use Rattle.std.specs.{List.flat_map, Str.bytes_eq}
use Rattle.koth_protocol.specs.{Commands.{Command, Reader, commands_read, kept_source, read_from}, Lines.{lines_from, lines_of, without_dot, without_return}}
use Rattle.koth_client.specs.Sending.{byte_sent, dotted_from, ended_from, lines_taken, AsksAlone}

-- a line with a second dot if it begins with one
abbrev pub dotted : List ℕ → List ℕ
dotted [] = []
dotted (b ∷ bs) = if b == 46 then 46 ∷ b ∷ bs else b ∷ bs

abbrev starts_here : List ℕ → Bool
starts_here [] = true
starts_here (b ∷ bs) = false

-- ---- a carriage return at the end of a line

last_return : (b : ℕ) → (b == 46) ≡ false → (r : Bool) → (if r then [] else b ∷ []) ≡ dotted (if r then [] else b ∷ [])
last_return b other true = refl
last_return b other false = rw other refl

one_return : (b : ℕ) (is : Bool) → (b == 46) ≡ is → without_return (dotted (b ∷ [])) ≡ dotted (without_return (b ∷ []))
one_return b true is = subst (λ x. without_return (dotted (x ∷ [])) ≡ dotted (without_return (x ∷ []))) (sym (eqb-true b 46 is)) refl
one_return b false is = ap (λ d. without_return (if d then 46 ∷ b ∷ [] else b ∷ [])) is ∙ last_return b is (b == 13)

more_return : (b c : ℕ) (cs : List ℕ) (is : Bool)
    → without_return (if is then 46 ∷ b ∷ c ∷ cs else b ∷ c ∷ cs) ≡ (if is then 46 ∷ b ∷ without_return (c ∷ cs) else b ∷ without_return (c ∷ cs))
more_return b c cs true = refl
more_return b c cs false = refl

dotted_return : (line : List ℕ) → without_return (dotted line) ≡ dotted (without_return line)
dotted_return [] = refl
dotted_return (b ∷ []) = one_return b (b == 46) refl
dotted_return (b ∷ c ∷ cs) = more_return b c cs (b == 46)

-- ---- a line that goes on

goes_on : (b x : ℕ) (xs : List ℕ) (is : Bool)
    → (if is then 46 ∷ x ∷ xs else x ∷ xs) ++ b ∷ [] ≡ (if is then 46 ∷ x ∷ (xs ++ b ∷ []) else x ∷ (xs ++ b ∷ []))
goes_on b x xs true = refl
goes_on b x xs false = refl

-- what is sent of the rest of a source after the beginning of a line, and what lines that is
abbrev LinesSent : List ℕ → List ℕ → List ℕ → List ℕ → Type 0
LinesSent line sent rest more = lines_from (dotted line) (sent ++ more) ≡ map dotted (lines_from line rest) ++ lines_from [] more

end_sent : (line more : List ℕ) → LinesSent line (dotted_from (starts_here line) []) (ended_from (starts_here line) []) more
end_sent [] more = refl
end_sent (x ∷ xs) more = ap (λ l. l ∷ lines_from [] more) (dotted_return (x ∷ xs))

-- a line feed ends a line
feed_sent : (line bytes more : List ℕ) → LinesSent [] (dotted_from true bytes) (ended_from true bytes) more
    → LinesSent line (dotted_from (starts_here line) (10 ∷ bytes)) (ended_from (starts_here line) (10 ∷ bytes)) more
feed_sent [] bytes more others = ap (λ ls. [] ∷ ls) others
feed_sent (x ∷ xs) bytes more others =
    ap (λ l. l ∷ lines_from [] (dotted_from true bytes ++ more)) (dotted_return (x ∷ xs)) ∙ ap (λ ls. dotted (without_return (x ∷ xs)) ∷ ls) others

-- another byte goes on with it
goes : (line rest : List ℕ) (b : ℕ) → (b == 10) ≡ false → lines_from line (b ∷ rest) ≡ lines_from (line ++ b ∷ []) rest
goes line rest b other = ap (λ feed. if feed then without_return line ∷ lines_from [] rest else lines_from (line ++ b ∷ []) rest) other

-- a byte with which a line starts
first_goes : (b : ℕ) (rest more : List ℕ) (is : Bool) → (b == 10) ≡ false
    → lines_from [] (((if is then 46 ∷ b ∷ [] else b ∷ []) ++ rest) ++ more) ≡ lines_from (if is then 46 ∷ b ∷ [] else b ∷ []) (rest ++ more)
first_goes b rest more true other = goes (46 ∷ []) (rest ++ more) b other
first_goes b rest more false other = goes [] (rest ++ more) b other

other_sent : (line : List ℕ) (b : ℕ) (bytes more : List ℕ) → (b == 10) ≡ false
    → LinesSent (line ++ b ∷ []) (dotted_from false bytes) (ended_from false bytes) more
    → LinesSent line (dotted_from (starts_here line) (b ∷ bytes)) (ended_from (starts_here line) (b ∷ bytes)) more
other_sent [] b bytes more other others =
    first_goes b (dotted_from (b == 10) bytes) more (b == 46) other
    ∙ ap (λ feed. lines_from (dotted (b ∷ [])) (dotted_from feed bytes ++ more)) other
    ∙ others
    ∙ ap (λ feed. map dotted (lines_from (b ∷ []) (ended_from feed bytes)) ++ lines_from [] more) (sym other)
    ∙ ap (λ lines. map dotted lines ++ lines_from [] more) (sym (goes [] (ended_from (b == 10) bytes) b other))
other_sent (x ∷ xs) b bytes more other others =
    goes (dotted (x ∷ xs)) (dotted_from (b == 10) bytes ++ more) b other
    ∙ ap (λ line. lines_from line (dotted_from (b == 10) bytes ++ more)) (goes_on b x xs (x == 46))
    ∙ ap (λ feed. lines_from (dotted (x ∷ (xs ++ b ∷ []))) (dotted_from feed bytes ++ more)) other
    ∙ others
    ∙ ap (λ feed. map dotted (lines_from (x ∷ (xs ++ b ∷ [])) (ended_from feed bytes)) ++ lines_from [] more) (sym other)
    ∙ ap (λ lines. map dotted lines ++ lines_from [] more) (sym (goes (x ∷ xs) (ended_from (b == 10) bytes) b other))

starts_no_more : (line : List ℕ) (b : ℕ) → starts_here (line ++ b ∷ []) ≡ false
starts_no_more [] b = refl
starts_no_more (x ∷ xs) b = refl

lines_sent : (bytes line more : List ℕ) → LinesSent line (dotted_from (starts_here line) bytes) (ended_from (starts_here line) bytes) more
lines_sent [] line more = end_sent line more
lines_sent (b ∷ bytes) line more = by (b == 10) refl (λ others. lines_sent bytes others more)
  where
    by : (is : Bool) → (b == 10) ≡ is
        → ((others : List ℕ) → LinesSent others (dotted_from (starts_here others) bytes) (ended_from (starts_here others) bytes) more)
        → LinesSent line (dotted_from (starts_here line) (b ∷ bytes)) (ended_from (starts_here line) (b ∷ bytes)) more
    by true is sent =
        subst (λ x. LinesSent line (dotted_from (starts_here line) (x ∷ bytes)) (ended_from (starts_here line) (x ∷ bytes)) more) (sym (eqb-true b 10 is)) (feed_sent line bytes more (sent []))
    by false is sent =
        other_sent line b bytes more is (subst (λ s. LinesSent (line ++ b ∷ []) (dotted_from s bytes) (ended_from s bytes) more) (starts_no_more line b) (sent (line ++ b ∷ [])))

-- ---- how a session reads these lines

no_end : (line : List ℕ) → bytes_eq (dotted line) (codes ".") ≡ false
no_end [] = refl
no_end (b ∷ bs) = by (b == 46) refl
  where
    by : (is : Bool) → (b == 46) ≡ is → bytes_eq (if is then 46 ∷ b ∷ bs else b ∷ bs) (codes ".") ≡ false
    by true is = refl
    by false is = ap (λ dot. dot && bytes_eq bs []) is

undotted : (line : List ℕ) → without_dot (dotted line) ≡ line
undotted [] = refl
undotted (b ∷ bs) = by (b == 46) refl
  where
    by : (is : Bool) → (b == 46) ≡ is → without_dot (if is then 46 ∷ b ∷ bs else b ∷ bs) ≡ b ∷ bs
    by true is = refl
    by false is = ap (λ dot. if dot then bs else b ∷ bs) is

abbrev with_feed : List ℕ → List ℕ
with_feed line = line ++ 10 ∷ []

abbrev read_more : Reader → List ℕ → List (List ℕ) → List (List ℕ) → List Command
read_more reader source lines rest = read_from reader (Some source) (map dotted lines ++ codes "." ∷ rest)

read_sent : (reader : Reader) (lines : List (List ℕ)) (source : List ℕ) (rest : List (List ℕ))
    → read_more reader source lines rest ≡ Command.Submit (kept_source (source ++ flat_map with_feed lines)) ∷ read_from reader None rest
read_sent reader [] source rest = ap (λ s. Command.Submit (kept_source s) ∷ read_from reader None rest) (sym (append-nil source))
read_sent reader (line ∷ lines) source rest =
    ap (λ is. if is then Command.Submit (kept_source source) ∷ read_from reader None (map dotted lines ++ codes "." ∷ rest)
    else read_more reader (source ++ without_dot (dotted line) ++ 10 ∷ []) lines rest) (no_end line)
    ∙ ap (λ l. read_more reader (source ++ l ++ 10 ∷ []) lines rest) (undotted line)
    ∙ ap (λ s. read_more reader s lines rest) (append_assoc source line (10 ∷ []))
    ∙ read_sent reader lines (source ++ with_feed line) rest
    ∙ ap (λ s. Command.Submit (kept_source s) ∷ read_from reader None rest) (append_assoc source (with_feed line) (flat_map with_feed lines))

pub asks_alone : (source text : List ℕ) → text ≡ (codes "SUBMIT\n" ++ dotted_from true source) ++ codes ".\nQUIT\n"
    → AsksAlone (Command.Submit (kept_source (lines_taken source))) text
asks_alone source text is reader =
    ap (commands_read reader) is
    ∙ ap (read_from reader (Some [])) (lines_sent source [] (codes ".\nQUIT\n"))
    ∙ read_sent reader (lines_of (ended_from true source)) [] (codes "QUIT" ∷ [])
