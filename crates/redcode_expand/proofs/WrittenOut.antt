-- A block is its body written out, copy by copy.
use Rattle.{std.proofs.Common.{arith, ◌≡◌, ℕ, zero, suc, ◌+◌, if◌then◌else◌, List, [], ◌∷◌, ◌++◌, Result, Ok, refl, ap}, redcode_names.specs.Gives.◌>>=◌}
use Rattle.redcode_expand.specs.{Walk.{WalkState, begun, closed, copied, copies, step, until_end, walk}, Laws.{written_out, BlocksAreWrittenOut}}
use Rattle.redcode_expand.proofs.Words.{AsmFault, RawSettings, Walked, Blocks, finish, one_line, block, open_for, Counter, counter_of, in_copy}

bind-same : {A : Type 0} (m n : Result A AsmFault) (f g : A → Walked) → m ≡ n → ((x : A) → f x ≡ g x) → m >>= f ≡ n >>= g
bind-same m n f g h1 h2 = grind arith

until-same : (f g : WalkState → Walked) (st : WalkState) → f st ≡ g st → until_end f st ≡ until_end g st
until-same f g st is = ap (λ (r : Walked). if st.ended then Ok st else r) is

copies-same : (body other : ℕ → WalkState → Walked) → ((n : ℕ) (st : WalkState) → body n st ≡ other n st) → (line k n : ℕ) (st : WalkState)
    → copies body line k n st ≡ copies other line k n st
copies-same body other same line zero n st = refl
copies-same body other same line (suc k) n st =
    until-same (λ st. body n st >>= until_end (copied line st.counted) >>= copies body line k (n + 1)) (λ st. other n st >>= until_end (copied line st.counted) >>= copies other line k (n + 1)) st
    (bind-same (body n st >>= until_end (copied line st.counted)) (other n st >>= until_end (copied line st.counted)) (copies body line k (n + 1)) (copies other line k (n + 1))
    (ap (λ (r : Walked). r >>= until_end (copied line st.counted)) (same n st)) (λ x. copies-same body other same line k (n + 1) x))

-- what the outermost counter names is replaced first
walk-out : (s : RawSettings) (c : Counter) (cs : List Counter) (blocks : Blocks) (st : WalkState) → walk s (c ∷ cs) blocks st ≡ walk s cs (written_out c blocks) st
walk-out s c cs finish st = refl
walk-out s c cs (one_line line rest) st =
    bind-same (until_end (step s (c ∷ cs) line) st) (until_end (step s cs (in_copy c line)) st) (walk s (c ∷ cs) rest) (walk s cs (written_out c rest)) refl (λ x. walk-out s c cs rest x)
walk-out s c cs (block for body rof rest) st =
    let inner : List ℕ → ℕ → WalkState → Walked = λ name number. walk s ((c ∷ cs) ++ counter_of name number ∷ []) body in
    let inner' : List ℕ → ℕ → WalkState → Walked = λ name number. walk s (cs ++ counter_of name number ∷ []) (written_out c body) in
    let begins : WalkState → Walked = λ st. begun s (c ∷ cs) for st >>= λ b. copies (inner b.counter) for.number b.copies 1 b.state in
    let begins' : WalkState → Walked = λ st. begun s cs (in_copy c for) st >>= λ b. copies (inner' b.counter) for.number b.copies 1 b.state in
    bind-same (until_end begins st >>= until_end (closed s (c ∷ cs) rof)) (until_end begins' st >>= until_end (closed s cs (in_copy c rof))) (walk s (c ∷ cs) rest) (walk s cs (written_out c rest))
    (ap (λ (r : Walked). r >>= until_end (closed s (c ∷ cs) rof))
    (until-same begins begins' st
    (bind-same (begun s (c ∷ cs) for st) (begun s cs (in_copy c for) st) (λ b. copies (inner b.counter) for.number b.copies 1 b.state) (λ b. copies (inner' b.counter) for.number b.copies 1 b.state) refl
    (λ b. copies-same (inner b.counter) (inner' b.counter) (λ n x. walk-out s c (cs ++ counter_of b.counter n ∷ []) body x) for.number b.copies 1 b.state))))
    (λ x. walk-out s c cs rest x)
walk-out s c cs (open_for for) st = refl

pub blocks-written : (s : RawSettings) → BlocksAreWrittenOut s
blocks-written s = grind (arith, until-same, bind-same, copies-same, walk-out)
