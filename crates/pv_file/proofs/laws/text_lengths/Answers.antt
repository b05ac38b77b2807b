use Rattle.pv_file.proofs.Lengths.{lines-short, leaves-few, files-short, files-limit, files-read}
use Rattle.pv_file.proofs.laws.text_lengths.Goals as goal

pub returns : goal.returns
returns c = record { lines = lines-short; leaves = leaves-few; files = files-short; limit = files-limit; read = files-read }
