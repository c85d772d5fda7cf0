use Rattle.{hill_bytes.proofs.{OneHeader.same_header, OneSlot.same_warrior}, hill_images.proofs.Newest.{reads_once, stands_once}}
use Rattle.hill_images.proofs.laws.laws_of_storage.Goals as goal

pub returns : goal.returns
returns c = record { one_header = same_header; one_warrior = same_warrior; one_reading = λ layout. reads_once {layout = layout}; one_hill = λ layout. stands_once {layout = layout} }
