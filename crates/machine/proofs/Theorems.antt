-- The theorems of specs/Theorems.antt, each with its proof.
-- Assumes nothing.
use Rattle.machine.specs.Theorems.{Theorems}
use Rattle.machine.proofs.Answers.{answers, bytes_after, first_bytes, no_six, lengths}
use Rattle.machine.proofs.OffLanes.{off_lanes, scalar_lanes}
use Rattle.machine.proofs.VectorFile.{vector_file}
use Rattle.machine.proofs.Masks.{masks}
use Rattle.machine.proofs.ControlWord.{control_word}
use Rattle.machine.proofs.TwoRuns.{two_runs}
use Rattle.machine.proofs.Rows.{decoded_bytes, starred_rows, two_stages, scalar_rows, compare_rows}

pub theorems : Theorems
theorems =
    record {
      answers = answers;
      bytes_after = bytes_after;
      first_bytes = first_bytes;
      no_six = no_six;
      lengths = lengths;
      off_lanes = off_lanes;
      scalar_lanes = scalar_lanes;
      vector_file = vector_file;
      masks = masks;
      control_word = control_word;
      two_runs = two_runs;
      decoded_bytes = decoded_bytes;
      starred_rows = starred_rows;
      two_stages = two_stages;
      scalar_rows = scalar_rows;
      compare_rows = compare_rows;
    }
