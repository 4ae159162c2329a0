-- What the code finds of an item before it steps. No clause: used by the code, nothing to believe.
use Rattle.std.specs.Prelude.{ℕ, ◌≡◌, false, List, drop}
use Rattle.recording.specs.Item.{expected_number, code_in, memory_in, expected_control, expected_destination, item_size, is_bad}
use Rattle.replayer.specs.declared.item.Item.{Item}

-- the parts of the item that bytes begin with, which is well formed, and the bytes behind it
pub record IsItem (bytes : List ℕ) (item : Item) : Type 0 where
  pub good : is_bad bytes ≡ false
  pub number : item.number ≡ expected_number bytes
  pub code : item.code.now ≡ code_in bytes
  pub memory : item.memory.now ≡ memory_in bytes
  pub control : item.control ≡ expected_control bytes
  pub destination : item.destination.now ≡ expected_destination bytes
  pub rest : item.rest.now ≡ drop (item_size bytes) bytes
