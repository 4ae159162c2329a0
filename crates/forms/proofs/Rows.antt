-- The statement of specs/Rows.antt: both sides are computed.
-- Assumes nothing.
use mathlib.Core.List.{[], ◌∷◌, flatten}
use mathlib.Core.Path.{◌≡◌, refl}
use lib.ListN.{take, drop}
use Rattle.lists.specs.Lists.{table}
use Rattle.forms.specs.declared.Version.{Version}
use Rattle.forms.specs.declared.Version.TheVariants.{One, Two}
use Rattle.forms.specs.Numbers.{big, joined, registers}
use Rattle.forms.specs.File.{present, presence, pack, file_form}
use Rattle.forms.specs.Form.{numbers, content, saved_form}
use Rattle.forms.specs.Rows.{sample, FormRows}

numbers_there : (v : Version) → take 16 (drop 9 (saved_form v sample))
    ≡ 1 ∷ 2 ∷ 3 ∷ 4 ∷ 5 ∷ 6 ∷ 7 ∷ 8 ∷ 0x11 ∷ 0x12 ∷ 0x13 ∷ 0x14 ∷ 0x15 ∷ 0x16 ∷ 0x17 ∷ 0x18 ∷ []
unfolding saved_form content numbers big registers joined table flatten file_form pack presence present
numbers_there One = refl
numbers_there Two = refl

mask_there : (v : Version) → take 8 (drop 201 (saved_form v sample)) ≡ 0x41 ∷ 0x42 ∷ 0x43 ∷ 0x44 ∷ 0x45 ∷ 0x46 ∷ 0x47 ∷ 0x48 ∷ []
unfolding saved_form content numbers big registers joined table flatten file_form pack presence present
mask_there One = refl
mask_there Two = refl

pub form_rows : FormRows
unfolding saved_form content numbers big registers joined table flatten file_form pack presence present
form_rows =
    record {
      one = refl;
      two = refl;
      numbers = numbers_there;
      mask = mask_there;
      whole = refl;
      packed = refl;
    }
