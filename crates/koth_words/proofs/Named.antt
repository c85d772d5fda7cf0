-- What a parse of the program's words met.
use Rattle.std.proofs.Common.{◌≡◌, ◌≢◌, ◌⊎◌, inl, inr, subst, ◌∙◌, ◌||◌, Bool, true, false, List, Option, None, Some, Box, is_some, IfSome, if◌then◌else◌, sym, ap, refl, codes, [], ◌∷◌, option_map}
use Rattle.{std.specs.{Box.box_value, List.find, Str.bytes_eq}, clap.specs.Faults.{entered_fault, fault_of, is_simple_and_free, other_fault}}
use Rattle.clap.specs.{Simple.{App, HasMatchesOf, argument_words, built, entered, is_simple, label_of, names_of, rows_at, subcommand_of, subcommand_rows, subcommand_rows_of}, Takes.takes}
use Rattle.clap.specs.{Kinds.{HasKind, IsAmong, Kinds}, Matches.subcommand_name_of, Values.kind_of, Walk.{Held, Row, Text, answers_to, idle, nothing_held, option, positional, stop_after, walk_from}}
use Rattle.clap.specs.{declared.error.Error.Error, declared.error.kind.ErrorKind.ErrorKind, declared.parser.matches.ArgMatches.ArgMatches}
use Rattle.{clap.specs.{declared.parser.matches.ArgMatches.TheViews.{out-ArgMatches, out-SubCommand}, declared.parser.matches.SubCommand.SubCommand}, clap.proofs.OnLiterals.clap_on_literals}
use Rattle.{koth_words.specs.{Words.{given_by, given_in, koth_app, AreTaken, AreWrong, AskForHelp, HaveFault, IsCommandName, NamesCommand}, declared.requests.View.View}, koth_words.proofs.Entered.{OnNames, level_has, level_walks, walk_stops}}

koth_is_simple : (is_simple koth_app ≡ true) × (is_simple_and_free koth_app ≡ true)
unfolding clap_on_literals koth_app
koth_is_simple = (refl, refl)

-- what the parse gives is what the words name
pub found : (app : App) (m : ArgMatches) (words : List Text) → app ≡ koth_app → HasMatchesOf app words m → subcommand_rows_of m ≡ subcommand_of koth_app words
found app m words is has = (has (ap is_simple is ∙ koth_is_simple.0)).1 ∙ ap (λ a. subcommand_of a words) is

module _ {Z : Type 0} where
  name-rows : (met : Option (Box SubCommand Z)) → option_map (λ p. p.0) (subcommand_rows met) ≡ option_map (λ b. (out-SubCommand (box_value b)).name.now) met
  name-rows None = refl
  name-rows (Some b) = refl

-- the name that the parse gives is that of the subcommand that the words name
named : (app : App) (m : ArgMatches) (words : List Text) → app ≡ koth_app → HasMatchesOf app words m
    → option_map (λ p. p.0) (subcommand_of koth_app words) ≡ subcommand_name_of m
named app m words is has = ap (option_map (λ p. p.0)) (sym (found app m words is has)) ∙ name-rows (out-ArgMatches m).subcommand

-- ---- words without fault name a command

abbrev met_by : Bool → Bool → Bool → Bool → Bool → Bool → Bool → Bool → Bool → Bool → Bool → Bool → Bool → Bool → Bool → Bool → Bool → Bool → Bool → Option Text
met_by asm check fight create submit show serve session audit migrate page replay trace try copy reseed rank explain help = option_map (λ (s : Text × List Text). s.0) (
    if asm || false then Some (codes "asm", [])
    else if check || false then Some (codes "check", [])
    else if fight || false then Some (codes "fight", [])
    else if create || false then Some (codes "create", [])
    else if submit || false then Some (codes "submit", [])
    else if show || false then Some (codes "show", [])
    else if serve || false then Some (codes "serve", [])
    else if session || false then Some (codes "session", [])
    else if audit || false then Some (codes "audit", [])
    else if migrate || false then Some (codes "migrate", [])
    else if page || false then Some (codes "page", [])
    else if replay || false then Some (codes "replay", [])
    else if trace || false then Some (codes "trace", [])
    else if try || false then Some (codes "try", [])
    else if copy || false then Some (codes "copy", [])
    else if reseed || false then Some (codes "reseed", [])
    else if rank || false then Some (codes "rank", [])
    else if explain || false then Some (codes "explain", [])
    else if help || false then Some (codes "help", []) else None)

met_is_command : (asm check fight create submit show serve session audit migrate page replay trace try copy reseed rank explain help : Bool) (word : Text) (h : Held)
    → other_fault (built koth_app).top (met_by asm check fight create submit show serve session audit migrate page replay trace try copy reseed rank explain help) word h ≡ []
    → IfSome (met_by asm check fight create submit show serve session audit migrate page replay trace try copy reseed rank explain help) IsCommandName
unfolding clap_on_literals koth_app
met_is_command true check fight create submit show serve session audit migrate page replay trace try copy reseed rank explain help word h none = inl refl
met_is_command false true fight create submit show serve session audit migrate page replay trace try copy reseed rank explain help word h none = inr (inl refl)
met_is_command false false true create submit show serve session audit migrate page replay trace try copy reseed rank explain help word h none = inr (inr (inl refl))
met_is_command false false false true submit show serve session audit migrate page replay trace try copy reseed rank explain help word h none = inr (inr (inr (inl refl)))
met_is_command false false false false true show serve session audit migrate page replay trace try copy reseed rank explain help word h none = inr (inr (inr (inr (inl refl))))
met_is_command false false false false false true serve session audit migrate page replay trace try copy reseed rank explain help word h none = inr (inr (inr (inr (inr (inl refl)))))
met_is_command false false false false false false true session audit migrate page replay trace try copy reseed rank explain help word h none = inr (inr (inr (inr (inr (inr (inl refl))))))
met_is_command false false false false false false false true audit migrate page replay trace try copy reseed rank explain help word h none = inr (inr (inr (inr (inr (inr (inr (inl refl)))))))
met_is_command false false false false false false false false true migrate page replay trace try copy reseed rank explain help word h none = inr (inr (inr (inr (inr (inr (inr (inr (inl refl))))))))
met_is_command false false false false false false false false false true page replay trace try copy reseed rank explain help word h none = inr (inr (inr (inr (inr (inr (inr (inr (inr (inl refl)))))))))
met_is_command false false false false false false false false false false true replay trace try copy reseed rank explain help word h none = inr (inr (inr (inr (inr (inr (inr (inr (inr (inr (inl refl))))))))))
met_is_command false false false false false false false false false false false true trace try copy reseed rank explain help word h none = inr (inr (inr (inr (inr (inr (inr (inr (inr (inr (inr (inl refl)))))))))))
met_is_command false false false false false false false false false false false false true try copy reseed rank explain help word h none = inr (inr (inr (inr (inr (inr (inr (inr (inr (inr (inr (inr (inl refl))))))))))))
met_is_command false false false false false false false false false false false false false true copy reseed rank explain help word h none = inr (inr (inr (inr (inr (inr (inr (inr (inr (inr (inr (inr (inr (inl refl)))))))))))))
met_is_command false false false false false false false false false false false false false false true reseed rank explain help word h none = inr (inr (inr (inr (inr (inr (inr (inr (inr (inr (inr (inr (inr (inr (inl refl))))))))))))))
met_is_command false false false false false false false false false false false false false false false true rank explain help word h none = inr (inr (inr (inr (inr (inr (inr (inr (inr (inr (inr (inr (inr (inr (inr (inl refl)))))))))))))))
met_is_command false false false false false false false false false false false false false false false false true explain help word h none = inr (inr (inr (inr (inr (inr (inr (inr (inr (inr (inr (inr (inr (inr (inr (inr (inl refl))))))))))))))))
met_is_command false false false false false false false false false false false false false false false false false true help word h none = inr (inr (inr (inr (inr (inr (inr (inr (inr (inr (inr (inr (inr (inr (inr (inr (inr refl))))))))))))))))
met_is_command false false false false false false false false false false false false false false false false false false true word h none = absurd (cc)
met_is_command false false false false false false false false false false false false false false false false false false false word h none = tt

each_is_command : OnNames (built koth_app).top (names_of (built koth_app)) IsCommandName
unfolding clap_on_literals koth_app
each_is_command idle word h none = met_is_command
    (bytes_eq (codes "asm") word) (bytes_eq (codes "check") word) (bytes_eq (codes "fight") word)
    (bytes_eq (codes "create") word) (bytes_eq (codes "submit") word) (bytes_eq (codes "show") word)
    (bytes_eq (codes "serve") word) (bytes_eq (codes "session") word) (bytes_eq (codes "audit") word)
    (bytes_eq (codes "migrate") word) (bytes_eq (codes "page") word) (bytes_eq (codes "replay") word)
    (bytes_eq (codes "trace") word) (bytes_eq (codes "try") word) (bytes_eq (codes "copy") word)
    (bytes_eq (codes "reseed") word) (bytes_eq (codes "rank") word) (bytes_eq (codes "explain") word) (bytes_eq (codes "help") word) word h none
each_is_command (option id) word h none = tt
each_is_command positional word h none = tt

is_required : (built koth_app).top.subcommand_required ≡ true
unfolding koth_app
is_required = refl

-- what is entered at a name
abbrev entered_at : Text → List Text → Option Text
entered_at name words = option_map (λ r. r.0) (option_map (λ s. rows_at s words) (find (λ s. answers_to name (label_of s)) (built koth_app).subs))

-- at a command's name that command is entered
named_at : (p : Text × List Text) (name : Text) → p.0 ≡ name → NamesCommand (entered_at name p.1) → NamesCommand (entered_at p.0 p.1)
named_at p name is named = subst (λ n. NamesCommand (entered_at n p.1)) (sym is) named

enters_command : (stop : Option (Text × List Text)) → IfSome stop (λ p. IsCommandName p.0) → is_some (entered (built koth_app) stop) ≡ true
    → NamesCommand (option_map (λ p. p.0) (entered (built koth_app) stop))
unfolding clap_on_literals koth_app
enters_command None met has = absurd (cc)
enters_command (Some p) (inl is) has = named_at p (codes "asm") is (inl refl)
enters_command (Some p) (inr (inl is)) has = named_at p (codes "check") is (inr (inl refl))
enters_command (Some p) (inr (inr (inl is))) has = named_at p (codes "fight") is (inr (inr (inl refl)))
enters_command (Some p) (inr (inr (inr (inl is)))) has = named_at p (codes "create") is (inr (inr (inr (inl refl))))
enters_command (Some p) (inr (inr (inr (inr (inl is))))) has = named_at p (codes "submit") is (inr (inr (inr (inr (inl refl)))))
enters_command (Some p) (inr (inr (inr (inr (inr (inl is)))))) has = named_at p (codes "show") is (inr (inr (inr (inr (inr (inl refl))))))
enters_command (Some p) (inr (inr (inr (inr (inr (inr (inl is))))))) has = named_at p (codes "serve") is (inr (inr (inr (inr (inr (inr (inl refl)))))))
enters_command (Some p) (inr (inr (inr (inr (inr (inr (inr (inl is)))))))) has = named_at p (codes "session") is (inr (inr (inr (inr (inr (inr (inr (inl refl))))))))
enters_command (Some p) (inr (inr (inr (inr (inr (inr (inr (inr (inl is))))))))) has = named_at p (codes "audit") is (inr (inr (inr (inr (inr (inr (inr (inr (inl refl)))))))))
enters_command (Some p) (inr (inr (inr (inr (inr (inr (inr (inr (inr (inl is)))))))))) has = named_at p (codes "migrate") is (inr (inr (inr (inr (inr (inr (inr (inr (inr (inl refl))))))))))
enters_command (Some p) (inr (inr (inr (inr (inr (inr (inr (inr (inr (inr (inl is))))))))))) has = named_at p (codes "page") is (inr (inr (inr (inr (inr (inr (inr (inr (inr (inr (inl refl)))))))))))
enters_command (Some p) (inr (inr (inr (inr (inr (inr (inr (inr (inr (inr (inr (inl is)))))))))))) has = named_at p (codes "replay") is (inr (inr (inr (inr (inr (inr (inr (inr (inr (inr (inr (inl refl))))))))))))
enters_command (Some p) (inr (inr (inr (inr (inr (inr (inr (inr (inr (inr (inr (inr (inl is))))))))))))) has = named_at p (codes "trace") is (inr (inr (inr (inr (inr (inr (inr (inr (inr (inr (inr (inr (inl refl)))))))))))))
enters_command (Some p) (inr (inr (inr (inr (inr (inr (inr (inr (inr (inr (inr (inr (inr (inl is)))))))))))))) has = named_at p (codes "try") is (inr (inr (inr (inr (inr (inr (inr (inr (inr (inr (inr (inr (inr (inl refl))))))))))))))
enters_command (Some p) (inr (inr (inr (inr (inr (inr (inr (inr (inr (inr (inr (inr (inr (inr (inl is))))))))))))))) has = named_at p (codes "copy") is (inr (inr (inr (inr (inr (inr (inr (inr (inr (inr (inr (inr (inr (inr (inl refl)))))))))))))))
enters_command (Some p) (inr (inr (inr (inr (inr (inr (inr (inr (inr (inr (inr (inr (inr (inr (inr (inl is)))))))))))))))) has = named_at p (codes "reseed") is (inr (inr (inr (inr (inr (inr (inr (inr (inr (inr (inr (inr (inr (inr (inr (inl refl))))))))))))))))
enters_command (Some p) (inr (inr (inr (inr (inr (inr (inr (inr (inr (inr (inr (inr (inr (inr (inr (inr (inl is))))))))))))))))) has = named_at p (codes "rank") is (inr (inr (inr (inr (inr (inr (inr (inr (inr (inr (inr (inr (inr (inr (inr (inr (inl refl)))))))))))))))))
enters_command (Some p) (inr (inr (inr (inr (inr (inr (inr (inr (inr (inr (inr (inr (inr (inr (inr (inr (inr is))))))))))))))))) has = named_at p (codes "explain") is (inr (inr (inr (inr (inr (inr (inr (inr (inr (inr (inr (inr (inr (inr (inr (inr (inr refl)))))))))))))))))

-- words in which clap finds no fault name a command
names_command : (words : List Text) → fault_of koth_app words ≡ [] → NamesCommand (option_map (λ p. p.0) (subcommand_of koth_app words))
names_command words none =
    let app = built koth_app in
    let rest = argument_words koth_app words in
    let stop = stop_after app.top.rules (names_of app) rest in
    let has = is_some (entered app stop) in
    let walks = level_walks app.top (names_of app) rest has (entered_fault app stop) none in
    let met = walk_stops app.top (names_of app) IsCommandName each_is_command rest (walk_from nothing_held) walks tt in
    enters_command stop met (level_has app.top (names_of app) rest has (entered_fault app stop) is_required none)

-- what holds of a command's faults holds of those of the program's words
on_faults : (app : App) (words : List Text) (P : Kinds → Type 0) → app ≡ koth_app → (is_simple_and_free app ≡ true → P (fault_of app words)) → P (fault_of koth_app words)
on_faults app words P is holds = subst (λ a. P (fault_of a words)) is (holds (ap is_simple_and_free is ∙ koth_is_simple.1))

-- if clap finds no fault, the name that it gives is a command's, and the words are not wrong
pub gives_command : (app : App) (m : ArgMatches) (words : List Text) → app ≡ koth_app → HasMatchesOf app words m
    → (is_simple_and_free app ≡ true → fault_of app words ≡ []) → NamesCommand (subcommand_name_of m)
gives_command app m words is has none =
    subst NamesCommand (named app m words is has) (names_command words (on_faults app words (λ faults. faults ≡ []) is none))

pub no_fault : (app : App) (words : List Text) → app ≡ koth_app → (is_simple_and_free app ≡ true → fault_of app words ≡ []) → fault_of koth_app words ≡ []
no_fault app words is none = on_faults app words (λ faults. faults ≡ []) is none

pub not_wrong : (app : App) (words : List Text) → app ≡ koth_app → (is_simple_and_free app ≡ true → fault_of app words ≡ []) → HaveFault words → ⊥
not_wrong app words is none wrong = wrong.0 (no_fault app words is none)

-- if the words are taken, an error is a lack of memory
pub memory_kind : (view : View) (app : App) (words : List Text) (e : Error) → app ≡ koth_app → (takes app words ≡ true → kind_of e ≡ ErrorKind.OutOfMemory)
    → AreTaken view words → kind_of e ≡ ErrorKind.OutOfMemory
memory_kind view app words e is passes taken = passes (ap (λ a. takes a words) is ∙ taken.0)

-- an error at wrong words is no request for help
pub wrong_kind : (view : View) (app : App) (words : List Text) (e : Error) → app ≡ koth_app → (is_simple_and_free app ≡ true → HasKind (fault_of app words) e) → AreWrong view words
    → (kind_of e ≢ ErrorKind.DisplayHelp) × (kind_of e ≢ ErrorKind.DisplayVersion)
wrong_kind view app words e is has wrong = by_kind (on_faults app words (λ faults. HasKind faults e) is has) wrong
  where
    IsKind : ErrorKind → Type 0
    IsKind k = IsAmong k (fault_of koth_app words)

    by_kind : HasKind (fault_of koth_app words) e → AreWrong view words → (kind_of e ≢ ErrorKind.DisplayHelp) × (kind_of e ≢ ErrorKind.DisplayVersion)
    by_kind (inl memory) wrong = (λ help. absurd (cc), λ version. absurd (cc))
    by_kind (inr among) (inl fault) = (λ help. fault.1 (subst IsKind help among), λ version. fault.2 (subst IsKind version among))
    by_kind (inr among) (inr unclear) = absurd (subst (λ faults. IsAmong (kind_of e) faults) unclear.0 among)

-- words that ask for help or the version have a fault
pub helps : (words : List Text) → AskForHelp words → fault_of koth_app words ≡ [] → ⊥
helps words (inl help) none = absurd (cc)
helps words (inr version) none = absurd (cc)

-- an error at them is that, or a lack of memory
pub help_kind : (app : App) (words : List Text) (e : Error) → app ≡ koth_app → (is_simple_and_free app ≡ true → HasKind (fault_of app words) e) → AskForHelp words
    → (kind_of e ≡ ErrorKind.OutOfMemory) ⊎ ((kind_of e ≡ ErrorKind.DisplayHelp) ⊎ (kind_of e ≡ ErrorKind.DisplayVersion))
help_kind app words e is has asks = by_kind (on_faults app words (λ faults. HasKind faults e) is has) asks
  where
    one : (k : ErrorKind) → fault_of koth_app words ≡ k ∷ [] → IsAmong (kind_of e) (fault_of koth_app words) → kind_of e ≡ k
    one k is among = elim (subst (IsAmong (kind_of e)) is among) [ inl same ↦ same | inr other ↦ absurd other ]

    by_kind : HasKind (fault_of koth_app words) e → AskForHelp words
        → (kind_of e ≡ ErrorKind.OutOfMemory) ⊎ ((kind_of e ≡ ErrorKind.DisplayHelp) ⊎ (kind_of e ≡ ErrorKind.DisplayVersion))
    by_kind (inl memory) asks = inl memory
    by_kind (inr among) (inl help) = inr (inl (one ErrorKind.DisplayHelp help among))
    by_kind (inr among) (inr version) = inr (inr (one ErrorKind.DisplayVersion version among))

-- what holds of what the words give a command also holds of what the parse gives
pub given_found : (app : App) (m : ArgMatches) (words : List Text) (P : List Row → Type 0) → app ≡ koth_app → HasMatchesOf app words m
    → P (given_by words) → P (given_in (subcommand_rows_of m))
given_found app m words P is has holds = subst (λ e. P (given_in e)) (sym (found app m words is has)) holds

-- and the other way round
pub given_named : (app : App) (m : ArgMatches) (words : List Text) (P : List Row → Type 0) → app ≡ koth_app → HasMatchesOf app words m
    → P (given_in (subcommand_rows_of m)) → P (given_by words)
given_named app m words P is has holds = subst (λ e. P (given_in e)) (found app m words is has) holds
