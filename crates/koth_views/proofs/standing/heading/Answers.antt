-- Each cell is its word.
use Rattle.koth_views.proofs.standing.heading.Goals as goal

pub returns : goal.returns
returns g c =
    simp (c.word.ensures, c.word-2.ensures, c.word-3.ensures, c.word-4.ensures, c.word-5.ensures, c.word-6.ensures, c.word-7.ensures, c.word-8.ensures, c.word-9.ensures) at c.of.ensures
