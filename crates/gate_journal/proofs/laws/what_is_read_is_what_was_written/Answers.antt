use Rattle.gate_journal.proofs.Spelled.{area_is_read, area_is_written}
use Rattle.gate_journal.proofs.laws.what_is_read_is_what_was_written.Goals as goal

pub returns : goal.returns
returns c = record {
  read = λ generation number gate sectors batches bytes. area_is_read generation number gate sectors batches bytes;
  written = λ generation number gate sectors bytes frames. area_is_written sectors generation number gate bytes frames;
}
