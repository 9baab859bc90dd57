-- The pass over all clauses. Assumes nothing.
use Prim.Native.Nat.{ℕ, ◌+◌, ◌<◌}
use native.Mathlib.Nat.{not-suc-le-zero}
use native.Mathlib.Omega.{arith}
use mathlib.Core.Path.{◌≡◌, ap, ◌∙◌}
use mathlib.Core.Bool.{Bool, true}
use mathlib.Core.List.{List}
use lib.ListN.{length, get_or, replicate, length-replicate}
use lib.Dec.{ltb}
use lib.IntN.{ℤ}
use Rattle.base.proofs.Lists.{get_d_zeros}
use Rattle.tables.specs.Tables.{start_of, length_of, standing}
use Rattle.shape.specs.Shape.{Literals}
use Rattle.shape.specs.Row.{Below}

-- the first i clauses are right, and no variable stood yet in a clause of a number above i
pub record Clausing (v settled : ℕ) (mark : Bool) (clauses : List ℕ) (literals variables : List ℤ) (i : ℕ) (last : List ℕ) : Type 0 where
  pub each : (j : ℕ) → j < i → Literals v literals variables (ltb j settled) (start_of clauses j) (length_of clauses j)
  pub empty : (j : ℕ) → j < i → standing clauses j ≡ 1 → length_of clauses j ≡ 0 → mark ≡ true
  pub size : length last ≡ 1024
  pub below : Below (i + 1) last

pub clausing_begin : (v settled : ℕ) (mark : Bool) (clauses : List ℕ) (literals variables : List ℤ) (last : List ℕ) → last ≡ replicate 1024 0
    → Clausing v settled mark clauses literals variables 0 last
clausing_begin v settled mark clauses literals variables last e = record {
  each = λ j l. absurd (not-suc-le-zero l);
  empty = λ j l. absurd (not-suc-le-zero l);
  size = ap length e ∙ length-replicate {A = ℕ} 1024 0;
  below = record { each = λ w. omega (arith, ap (λ (l : List ℕ). get_or l w 0) e, get_d_zeros 1024 w) };
}
