-- The pass over one clause's literals, with the number of the clause in which each variable stood last. Assumes nothing.
use Prim.Native.Nat.{ℕ, ◌+◌, ◌-◌, ◌≤◌, ◌<◌}
use native.Mathlib.Omega.{arith}
use mathlib.Core.Path.{◌≡◌, sym, ap, ◌∙◌}
use mathlib.Core.Bool.{Bool, true}
use mathlib.Core.Logic.{⊎_elim}
use mathlib.Core.List.{List}
use lib.ListN.{length, get_or, set, length-set}
use lib.Seq.{get_or-set_same, get_or-set_other}
use lib.IntN.{ℤ, pos}
use borrow.Author.Count.{below_more}
use Rattle.base.specs.Decide.{same_or}
use Rattle.literal.specs.Literals.{Literal}
use Rattle.tables.specs.Tables.{variable_at, class_of}
use Rattle.shape.specs.Shape.{Literals}
use Rattle.shape.specs.Row.{Below}

-- the first k literals are right, and `last` has this clause's number at exactly their variables
pub record Listing (v : ℕ) (literals variables : List ℤ) (settled : Bool) (start number k : ℕ) (last : List ℕ) : Type 0 where
  pub so_far : Literals v literals variables settled start k
  pub size : length last ≡ 1024
  pub seen : (j : ℕ) → j < k → get_or last (variable_at literals (start + j) - 1) 0 ≡ number
  pub source : (w : ℕ) → get_or last w 0 ≡ number → (j : ℕ) × (j < k) × (variable_at literals (start + j) ≡ w + 1)
  pub below : Below (number + 1) last

module _ (v : ℕ) (literals variables : List ℤ) (settled : Bool) (start number k : ℕ) (last : List ℕ) (L : Listing v literals variables settled start number k last) (within : v ≤ 1024) where
  -- the variable of the literal that comes now
  abbrev w : ℕ
  w = variable_at literals (start + k)

  pub listing_next : Literal v (get_or literals (start + k) (pos 0)) → (get_or last (w - 1) 0 ≡ number → ⊥) → (settled ≡ true → class_of variables w ≡ pos w)
      → Listing v literals variables settled start number (k + 1) (set last (w - 1) number)
  listing_next r new own = record {
    so_far = record {
      ranged = below_more _ k L.so_far.ranged r;
      once = below_more _ k L.so_far.once (λ j l e. new (ap (λ (x : ℕ). get_or last (x - 1) 0) (sym e) ∙ L.seen j l));
      own = λ s. below_more _ k (L.so_far.own s) (own s);
    };
    size = length-set last (w - 1) number ∙ L.size;
    seen = below_more _ k
        (λ j l. get_or-set_other last (w - 1) (variable_at literals (start + j) - 1) number 0 (λ e. new (ap (λ (x : ℕ). get_or last x 0) (sym e) ∙ L.seen j l)) ∙ L.seen j l)
        (get_or-set_same last (w - 1) number 0 here);
    source = λ u e. ⊎_elim
        (λ (s : u ≡ w - 1). (k, omega arith, omega (arith, s, r.above)))
        (λ (d : u ≡ w - 1 → ⊥). let f = L.source u (sym (get_or-set_other last (w - 1) u number 0 d) ∙ e) in (f.0, omega (arith, f.1), f.2))
        (same_or u (w - 1));
    below = record {
      each = λ u. ⊎_elim
          (λ (s : u ≡ w - 1). omega (arith, ap (λ (x : ℕ). get_or (set last (w - 1) number) x 0) s, get_or-set_same last (w - 1) number 0 here))
          (λ (d : u ≡ w - 1 → ⊥). omega (arith, get_or-set_other last (w - 1) u number 0 d, L.below.each u))
          (same_or u (w - 1));
    };
  }
    where
      here : w - 1 < length last
      here = omega (arith, L.size, r.above, r.within)

  -- a variable that has this clause's number stands before in it
  pub listing_twice : 0 < w → get_or last (w - 1) 0 ≡ number → (len : ℕ) → k < len → Literals v literals variables settled start len → ⊥
  listing_twice pos' e len lt C = let f = L.source (w - 1) e in C.once k lt f.0 f.1 (omega (arith, f.2))
