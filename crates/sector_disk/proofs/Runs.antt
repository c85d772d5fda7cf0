-- Runs of changes, one after another.
use Rattle.{std.proofs.Common.{◌≡◌, inl, inr, List, [], ◌∷◌, ◌++◌, refl, Result, Ok, Err, subst, sym, ap, ◌∙◌}, sector_disk.specs.{Disk.Disk, Changes.{after, Begun, Changes}}}

pub after-append : (front back : List (Disk → Disk)) (disk : Disk) → after (front ++ back) disk ≡ after back (after front disk)
after-append [] back disk = refl
after-append (change ∷ front) back disk = after-append front back (change disk)

-- nothing has begun
pub begun_none : (changes : List (Disk → Disk)) (disk : Disk) → Begun changes disk disk
begun_none [] disk = refl
begun_none (change ∷ changes) disk = inl refl

-- all of them were made
pub begun_all : (changes : List (Disk → Disk)) (disk : Disk) → Begun changes disk (after changes disk)
begun_all [] disk = refl
begun_all (change ∷ changes) disk = inr (begun_all changes (change disk))

-- some at the front of the first ones are some at the front of all
pub begun_front : (front back : List (Disk → Disk)) (old new : Disk) → Begun front old new → Begun (front ++ back) old new
begun_front [] back old new is = subst (λ disk. Begun back old disk) (sym is) (begun_none back old)
begun_front (change ∷ front) back old new (inl is) = inl is
begun_front (change ∷ front) back old new (inr begun) = inr (begun_front front back (change old) new begun)

-- after all of the first ones, some at the front of the others
pub begun_more : (front back : List (Disk → Disk)) (old new : Disk) → Begun back (after front old) new → Begun (front ++ back) old new
begun_more [] back old new begun = begun
begun_more (change ∷ front) back old new begun = inr (begun_more front back (change old) new begun)

-- after changes that were all made, others
pub changes_more : {T E : Type 0} (front back : List (Disk → Disk)) (old mid new : Disk) (result : Result T E) → mid ≡ after front old → Changes back mid new result → Changes (front ++ back) old new result
changes_more front back old mid new (Ok value) is made = made ∙ ap (after back) is ∙ sym (after-append front back old)
changes_more front back old mid new (Err error) is begun = begun_more front back old new (subst (λ disk. Begun back disk new) is begun)
