-- A visit put together, by any rule: what its functions have said of the record, the part and the variables is the visit. And what a clause that is to be visited has. Assumes nothing.
use Prim.Native.Nat.{ℕ, ◌+◌, ◌*◌, ◌-◌, ◌≤◌}
use native.Mathlib.Omega.{arith}
use mathlib.Core.Path.{◌≡◌, refl, sym, ap, ◌∙◌}
use mathlib.Core.List.{List, [], ◌++◌}
use lib.ListN.{length, take, drop, set}
use lib.IntN.{ℤ}
use Rattle.literal.proofs.Zeros.{mid, put_part}
use Rattle.tables.specs.Tables.{Tables, tables, start_of, length_of, standing}
use Rattle.tables.specs.Values.{set_true}
use Rattle.tables.specs.Clauses.{literals_of}
use Rattle.tables.specs.Fates.{Fate, kept, left, dropped, unit, conflict, visit, shortened, dropped_at}
use Rattle.visits.specs.Visited.{Placed, Visitable, visited_as, Part, part_of, part_after, variables_after, record_after, Visit, visit_of, visit_by, visit_at}
use Rattle.visits.specs.declared.Visited.{Visited}
use Rattle.visits.specs.declared.Visited.TheVariants.{Kept}
use Rattle.visits.proofs.Forming.{record_place, part_inside, part_places}
use Rattle.visits.proofs.Placing.{replaced, put_holding, put_same}
use Rattle.visits.proofs.Visiting.{fate_dropped, fate_standing, Shrinks, stays, leaves, drops}

-- ---- the visit, and what it leaves

-- a dropped clause is answered as it is
visit_none : (rule : List ℤ → Fate) (k : ℕ) (t : Tables) → standing t.clauses k ≡ 0 → visit_of Kept t ≡ visit_at rule k t
unfolding visit_at
visit_none rule k t e = ap (λ (f : Fate). visit_by k f t) (sym (fate_dropped rule k t e))

-- the tables of a visit
pub visit_tables : (rule : List ℤ → Fate) (k : ℕ) (t : Tables) {t' : Tables} {r : Visited} → visit_of r t' ≡ visit_at rule k t → t' ≡ visit rule k t
unfolding visit_at
visit_tables rule k t e = ap (λ (x : Visit). x.tables) e

-- a fate that only takes literals or the clause away leaves the variables
pub shrinks_variables : {f : Fate} (w : List ℤ) → Shrinks f → w ≡ variables_after f w
shrinks_variables w stays = refl
shrinks_variables w (leaves C) = refl
shrinks_variables w drops = refl

module _ (k : ℕ) (c : List ℕ) (l w : List ℤ) (times : List ℕ) (links : List ℤ) (inside : start_of c k + length_of c k ≤ length l) where
  -- the record, the part and the variables of a fate are what storing it gives
  fated : (f : Fate) → visit_of (part_after f (literals_of c l k)).visited
      (tables (record_after k (part_after f (literals_of c l k)).visited c) (replaced (start_of c k) (length_of c k) (part_after f (literals_of c l k)).part l) (variables_after f w) times links)
      ≡ visit_by k f (tables c l w times links)
  unfolding shortened dropped_at
  fated kept = ap (λ (x : List ℤ). visit_by k kept (tables c x w times links)) (put_same k c l inside)
  fated (left C) = ap (λ (x : List ℤ). visit_of (visited_as (left C)) (tables (set c (3 * k + 1) (length C)) x w times links)) (put_holding k c l inside C)
  fated dropped = ap (λ (x : List ℤ). visit_of (visited_as dropped) (tables (record_after k (visited_as dropped) c) x w times links)) (put_holding k c l inside [])
  fated (unit u) = ap (λ (x : List ℤ). visit_of (visited_as (unit u)) (tables (record_after k (visited_as (unit u)) c) x (set_true w u) times links)) (put_holding k c l inside [])
  fated conflict = ap (λ (x : List ℤ). visit_of (visited_as conflict) (tables (record_after k (visited_as conflict) c) x w times links)) (put_holding k c l inside [])

-- ---- the part of clause k, as it is lent from `start` to `end`

pub record Bounds (k : ℕ) (c : List ℕ) (start end : ℕ) : Type 0 where
  pub starts : start ≡ start_of c k
  pub ends : end ≡ start_of c k + length_of c k

module _ {k : ℕ} {c : List ℕ} {start end : ℕ} (L : Bounds k c start end) where
  pub lent_is : (l : List ℤ) → take (end - start) (drop start l) ≡ literals_of c l k
  lent_is l = (λ i. take (L.ends i - L.starts i) (drop (L.starts i) l)) ∙ ap (λ (n : ℕ). take n (drop (start_of c k) l)) (mid (start_of c k) (length_of c k))

  pub back_is : (l q : List ℤ) → take start l ++ (q ++ drop (end - start) (drop start l)) ≡ replaced (start_of c k) (length_of c k) q l
  back_is l q = (λ i. take (L.starts i) l ++ (q ++ drop (L.ends i - L.starts i) (drop (L.starts i) l))) ∙ put_part (start_of c k) (length_of c k) l q q refl

-- THE LAW: what the functions of a visit have said of the part, the variables and the record is the visit
module _ (k : ℕ) (c : List ℕ) (l w : List ℤ) (inside : start_of c k + length_of c k ≤ length l) (rule : List ℤ → Fate) (stands : standing c k ≡ 0 → ⊥) (r : Visited) (c' : List ℕ) (l' q w' : List ℤ) where
  abbrev now : List ℤ
  now = literals_of c l k

  pub visited_is : part_of r q ≡ part_after (rule now) now → w' ≡ variables_after (rule now) w → c' ≡ record_after k r c → l' ≡ take (start_of c k) l ++ (q ++ drop (start_of c k + length_of c k) l)
      → (times : List ℕ) (links : List ℤ) → visit_of r (tables c' l' w' times links) ≡ visit_at rule k (tables c l w times links)
  unfolding visit_at
  visited_is part values records places times links =
      (λ i. visit_of r (tables (records i) (places i) (values i) times links))
      ∙ ap (λ (x : Part). visit_of x.visited (tables (record_after k x.visited c) (replaced (start_of c k) (length_of c k) x.part l) (variables_after (rule now) w) times links)) part
      ∙ fated k c l w times links inside (rule now)
      ∙ ap (λ (f : Fate). visit_by k f (tables c l w times links)) (sym (fate_standing rule k (tables c l w times links) stands))

-- and of a dropped clause, which nothing changes
pub visited_gone : (k : ℕ) (c : List ℕ) (l w : List ℤ) (rule : List ℤ → Fate) → standing c k ≡ 0 → (r : Visited) (c' : List ℕ) (l' w' : List ℤ) → r ≡ Kept → c' ≡ c → l' ≡ l → w' ≡ w
    → (times : List ℕ) (links : List ℤ) → visit_of r (tables c' l' w' times links) ≡ visit_at rule k (tables c l w times links)
visited_gone k c l w rule z r c' l' w' answer records places values times links =
    (λ i. visit_of (answer i) (tables (records i) (places i) (values i) times links)) ∙ visit_none rule k (tables c l w times links) z

-- ---- what a clause that is to be visited has

module _ {k : ℕ} {c : List ℕ} {l w : List ℤ} (R : Visitable k c l w) where
  pub visitable_placed : Placed k c
  visitable_placed = record { record_in = record_place R.formed k R.below; within = (part_places R.formed k R.below).1 }

  pub visitable_inside : start_of c k + length_of c k ≤ length l
  visitable_inside = part_inside R.formed k R.below

  module _ {start end : ℕ} (L : Bounds k c start end) where
    pub lent_inside : end ≤ length l
    lent_inside = omega (arith, L.ends, visitable_inside)
