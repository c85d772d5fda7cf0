-- The sectors are read one after the other.
use Rattle.koth_files.proofs.damage.lost_header.Goals as goal

pub returns-clause-lost : goal.returns-clause-lost
returns-clause-lost g c = λ lawful. record {
  middle = c.read.new.self;
  even = c.read.new.to;
  odd = c.read-2.new.to;
  first = c.in_ok-read.ensures.given lawful;
  second = c.in_ok-read-2.ensures.given (c.in_ok-read.ensures.served.same_laws.1 lawful);
  loses = c.loses_header.ensures;
}
