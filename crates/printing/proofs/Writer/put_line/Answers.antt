-- Five pieces, one behind the other.
use Rattle.printing.proofs.Storing.{wrote_then}
use Rattle.printing.proofs.Writer.put_line.Goals as goal

pub returns : goal.returns
returns c = wrote_then c.put_text.ensures (wrote_then c.put_number.ensures (wrote_then c.put_byte.ensures (wrote_then c.put_number-2.ensures c.put_byte-2.ensures)))
