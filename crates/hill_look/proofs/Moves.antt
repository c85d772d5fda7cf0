-- How a store moves on, one run of writes after another.
use Rattle.std.proofs.Common.{ℕ, List, [], ◌∷◌, ◌++◌, refl, subst}
use Rattle.hill_look.specs.Meanwhile.{Write, after_write, Writes, MovesOn, StoodAt}

pub stays : (image : ℕ → List ℕ) → MovesOn image image
stays image = record { writes = []; made = refl }

writes_more : (front back : List Write) (old mid new : ℕ → List ℕ) → Writes old front mid → Writes mid back new → Writes old (front ++ back) new
writes_more [] back old mid new made more = subst (λ image. Writes image back new) made more
writes_more (write ∷ front) back old mid new made more = (made.0, writes_more front back (after_write write old) mid new made.1 more)

pub moves_more : (old mid new : ℕ → List ℕ) → MovesOn old mid → MovesOn mid new → MovesOn old new
moves_more old mid new front back = record { writes = front.writes ++ back.writes; made = writes_more front.writes back.writes old mid new front.made back.made }

-- what stood between two stood between an earlier one and a later one
pub stood_within : (first old new last : ℕ → List ℕ) (n : ℕ) (content : List ℕ) → MovesOn first old → MovesOn new last → StoodAt old new n content → StoodAt first last n content
stood_within first old new last n content front back stood = record {
  moment = stood.moment;
  before = moves_more first old stood.moment front stood.before;
  behind = moves_more stood.moment new last stood.behind back;
  here = stood.here;
}
