use Rattle.sector_disk.proofs.Images.{laws}
use Rattle.sector_disk.proofs.laws.laws_of_images.Goals as goal

pub returns : goal.returns
returns c = laws
