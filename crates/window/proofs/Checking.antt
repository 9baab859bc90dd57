-- The check of a window's clauses, one by one, with their literals counted. Assumes nothing.
use Prim.Native.Nat.{ℕ, ◌+◌, ◌*◌, ◌≤◌, ◌<◌}
use native.Mathlib.Nat.{not-suc-le-zero}
use native.Mathlib.Omega.{arith}
use native.Mathlib.Numerals.{add-one}
use mathlib.Core.Path.{◌≡◌, refl, ap, ◌∙◌}
use mathlib.Core.List.{List}
use lib.ListN.{length, replicate, length-replicate}
use borrow.Author.Count.{below_more}
use Rattle.base.proofs.Lists.{get_d_zeros}
use Rattle.shape.specs.Row.{Below}
use Rattle.window.specs.Window.{Places, size_of, total_of}
use Rattle.window.specs.Rule.{Learnable, LongWindow, WindowRule, Clauses}

-- a table of 1,024 places, all 0, has no clause's number
pub none_below : (number : ℕ) → 0 < number → (last : List ℕ) → last ≡ replicate 1024 0 → (length last ≡ 1024) × Below number last
none_below number some last e = (ap length e ∙ length-replicate {A = ℕ} 1024 0, record { each = λ w. rw e (omega (arith, some, get_d_zeros 1024 w)) })

-- ---- the clauses

-- the first k clauses are right, and so many literals are counted
pub record Checking (v : ℕ) (w : Places) (k total : ℕ) (last : List ℕ) : Type 0 where
  pub so_far : (j : ℕ) → j < k → Learnable v w.learnt (64 * j) (size_of w.sizes j)
  pub counted : total ≡ total_of k w.sizes
  pub small : total ≤ 64 * k
  pub size : length last ≡ 1024
  pub below : Below (k + 1) last

pub checking_begin : (v : ℕ) (w : Places) (last : List ℕ) → last ≡ replicate 1024 0 → Checking v w 0 0 last
unfolding total_of
checking_begin v w last e = let n = none_below 1 (omega arith) last e in record { so_far = λ j l. absurd (not-suc-le-zero l); counted = refl; small = omega arith; size = n.0; below = n.1 }

pub total_step : (n : ℕ) (sizes : List ℕ) → total_of (n + 1) sizes ≡ total_of n sizes + size_of sizes n
unfolding total_of
total_step n sizes = rw (add-one n)

pub checking_next : {v : ℕ} {w : Places} {k total : ℕ} {last last' : List ℕ} → Checking v w k total last → Learnable v w.learnt (64 * k) (size_of w.sizes k) → length last' ≡ length last → Below (k + 1 + 1) last'
    → Checking v w (k + 1) (total + size_of w.sizes k) last'
checking_next {v} {w} {k} {total} C L same B = record {
  so_far = below_more _ k C.so_far L;
  counted = rw (total_step k w.sizes) (ap (λ (x : ℕ). x + size_of w.sizes k) C.counted);
  small = omega (arith, C.small, L.few);
  size = same ∙ C.size;
  below = B;
}

-- the rule, by its halves
module _ {v : ℕ} {w : Places} where
  pub rule_clauses : WindowRule v w → Clauses v w
  rule_clauses R = record { each = R.each; total = R.total }

  pub clauses_rule : LongWindow w → w.window.clauses ≤ 64 → Clauses v w → WindowRule v w
  clauses_rule L few C = record { long = L; few = few; each = C.each; total = C.total }
