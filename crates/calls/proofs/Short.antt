-- A slice of fewer than 2,048 records gives short columns, which the shape rule and the test of lengths refuse. Said once for all calls. Assumes nothing.
use Prim.Native.Nat.{◌<◌}
use native.Mathlib.Nat.{min-le_right}
use native.Mathlib.Omega.{arith}
use mathlib.Core.Path.{◌≡◌, refl}
use mathlib.Core.Bool.{Bool, true, false}
use mathlib.Core.List.{List}
use lib.ListN.{length, take, length-take}
use Rattle.std.specs.Prelude.{Err}
use Rattle.base.specs.Decide.{does_exact}
use Rattle.state.specs.declared.State.{State}
use Rattle.state.specs.declared.Refusal.TheVariants.{Shape}
use Rattle.stamp_records.specs.declared.StampRecord.{StampRecord}
use Rattle.stamp_records.specs.Records.{times_of}
use Rattle.stamp_records.proofs.Over.{length_pairs}
use Rattle.tables.specs.Tables.{Tables}
use Rattle.tables.specs.Long.{long?, long_ok}
use Rattle.shape.specs.Decision.{shape_ok}
use Rattle.entry.specs.Entry.{entry_of, opening_of}
use Rattle.entry.specs.declared.PassName.{PassName}
use Rattle.shape.proofs.Reading.{shaped}
use Rattle.entry.proofs.Entering.{entry_misshapen, opening_misshapen}

-- ---- short columns

module _ (t : Tables) (short : length t.times < 4096) where
  pub short_shape : (st : State) → shape_ok t st ≡ false
  short_shape st = go (shape_ok t st) refl
    where
      go : (b : Bool) → shape_ok t st ≡ b → shape_ok t st ≡ false
      go true e = absurd (omega (arith, short, (shaped t st e).long.times))
      go false e = e

  pub short_entry : (own : PassName) (st : State) → entry_of own t st ≡ Err Shape
  short_entry own st = entry_misshapen own t st (short_shape st)

  pub short_opening : (st : State) → opening_of t st ≡ Err Shape
  short_opening st = opening_misshapen t st (short_shape st)

  pub short_long : long_ok t ≡ false
  unfolding long_ok
  short_long = go (long_ok t) refl
    where
      go : (b : Bool) → long_ok t ≡ b → long_ok t ≡ false
      go true e = absurd (omega (arith, short, ((does_exact (long? t)).holds e).times))
      go false e = e

-- the columns of a slice of fewer than 2,048 records are short: every call's definition refuses it with 1
pub few_lent : (stamps : List StampRecord) → length stamps < 2048 → length (times_of stamps) < 4096
few_lent stamps few =
    omega (arith, few, length_pairs (λ (r : StampRecord). r.discovery) (λ (r : StampRecord). r.finish) (take 2048 stamps), length-take 2048 stamps, min-le_right 2048 (length stamps))
