-- What is written: the walk from blank columns is the definition's, and so are the records made of the columns that it leaves. Assumes nothing.
use Prim.Native.Nat.{ℕ, ◌*◌, ◌≤◌}
use native.Mathlib.Omega.{arith}
use mathlib.Core.Path.{◌≡◌, ap, subst, ◌∙◌}
use mathlib.Core.List.{List, ◌++◌, map}
use lib.ListN.{length, get_or, take, drop, replicate, length-replicate, length-map}
use lib.LanesLaws.{map-replicate}
use lib.IntN.{ℤ, pos}
use Rattle.base.specs.Lists.{absent, interleave}
use Rattle.base.proofs.Lists.{take_filled}
use Rattle.literal.specs.Literals.{slot_of, lit_at}
use Rattle.literal.proofs.Laws.{slot_below}
use Rattle.walk.specs.declared.SlotStamp.{SlotStamp}
use Rattle.walk.specs.Walk.{Stamps, stamp_all, Lists}
use Rattle.walk.specs.Slots.{discoveries_of, finishes_of, parents_of, starts_of}
use Rattle.walk.proofs.Columns.{blank_stamp}
use Rattle.implications.specs.Clauses.{tos, implications}
use Rattle.scc.specs.Groups.{blank}
use Rattle.tables.specs.Tables.{tables}
use Rattle.tables.specs.Clauses.{slots_from}
use Rattle.table_graph.proofs.Listing.{mem_map}
use Rattle.stamp_walk.specs.Stamping.{ColumnsHold, Columned, Proper, Ordered, LiteralOrder}
use Rattle.stamp.specs.Stamp.{stamps_of, stamped_tables}
use Rattle.stamp.specs.Asking.{Full, Blank}

-- ---- the order

pub full_ordered : {v : ℕ} {order : List ℤ} → Full v order → Ordered (2 * v) (map slot_of order)
full_ordered {v} {order} F = record {
  many = length-map order slot_of ∙ F.many;
  below = λ q m. let k = mem_map slot_of (pos 0) order m in let L = F.each k.0 k.1 in omega (arith, k.2, slot_below (get_or order k.0 (pos 0)) v L.above L.within);
  all = F.all;
}

pub full_lists : {v : ℕ} {order : List ℤ} → Full v order → Lists (2 * v) (map slot_of order)
full_lists F = record { below = (full_ordered F).below; all = F.all }

pub full_literals : {v : ℕ} {order : List ℤ} → Full v order → v ≤ 1024 → LiteralOrder order
full_literals F few = record { each = λ i lt. let L = F.each i lt in record { above = L.above; within = omega (arith, L.within, few) } }

-- ---- the columns

pub blank_columned : {v : ℕ} {slots d f p s : List ℕ} → Blank v slots d f p s → Columned (2 * v) d f p s
blank_columned {v} B = record {
  discs = B.discs;
  fins = ap length B.fins ∙ length-replicate (2 * v) 0;
  pars = ap length B.pars ∙ length-replicate (2 * v) 0;
  tops = ap length B.tops ∙ length-replicate (2 * v) 0;
}

module _ {v n : ℕ} {cs : List ℕ} {ls : List ℤ} {order : List ℤ} (P : Proper v n cs ls) (F : Full v order) {slots d f p s : List ℕ} (B : Blank v slots d f p s) where
  abbrev clauses : List (List ℕ)
  clauses = slots_from cs ls n 0

  abbrev σ : Stamps
  σ = stamps_of clauses (2 * v) (map slot_of order)

  -- the walk from the blank columns is the definition's
  pub blank_walk : (l d' f' p' s' : List ℕ) → l ≡ map slot_of order → ColumnsHold (stamp_all (implications clauses) (λ q. absent q (tos clauses)) l (blank (2 * v) f p s)) d' f' p' s' → ColumnsHold σ d' f' p' s'
  unfolding stamps_of
  blank_walk l d' f' p' s' e H =
      let z : List ℕ = replicate (2 * v) 0 in
      let walk : List ℕ → List ℕ → List ℕ → List ℕ → Stamps = λ o x y w. stamp_all (implications clauses) (λ q. absent q (tos clauses)) o (blank (2 * v) x y w) in
      subst (λ (x : List ℕ). ColumnsHold (walk (map slot_of order) z z x) d' f' p' s') B.tops
      (subst (λ (x : List ℕ). ColumnsHold (walk (map slot_of order) z x s) d' f' p' s') B.pars
      (subst (λ (x : List ℕ). ColumnsHold (walk (map slot_of order) x p s) d' f' p' s') B.fins
      (subst (λ (x : List ℕ). ColumnsHold (walk x f p s) d' f' p' s') e H)))

  module _ {d' f' p' s' : List ℕ} (H : ColumnsHold σ d' f' p' s') (k : ℕ) (len : k ≡ 2 * v) where
    -- the records of the columns are the definition's
    pub records_are : (variables : List ℤ) (times times' : List ℕ) (links links' : List ℤ) → times' ≡ interleave d' f' ++ drop (2 * k) times → links' ≡ interleave (map lit_at p') (map lit_at s') ++ drop (2 * k) links
        → tables cs ls variables times' links' ≡ stamped_tables v σ (tables cs ls variables times links)
    unfolding stamped_tables
    records_are variables times times' links links' et el =
        let past : 2 * k ≡ 4 * v = omega (arith, len) in
        let a : times' ≡ interleave σ.discoveries σ.finishes ++ drop (4 * v) times =
        et ∙ ap (λ (l : List ℕ). interleave l f' ++ drop (2 * k) times) H.discs ∙ ap (λ (l : List ℕ). interleave σ.discoveries l ++ drop (2 * k) times) H.fins
        ∙ ap (λ (j : ℕ). interleave σ.discoveries σ.finishes ++ drop j times) past in
        let b : links' ≡ interleave (map lit_at σ.parents) (map lit_at σ.starts) ++ drop (4 * v) links =
        el ∙ ap (λ (l : List ℕ). interleave (map lit_at l) (map lit_at s') ++ drop (2 * k) links) H.pars ∙ ap (λ (l : List ℕ). interleave (map lit_at σ.parents) (map lit_at l) ++ drop (2 * k) links) H.tops
        ∙ ap (λ (j : ℕ). interleave (map lit_at σ.parents) (map lit_at σ.starts) ++ drop j links) past in
        ap (λ (x : List ℕ). tables cs ls variables x links') a ∙ ap (tables cs ls variables (interleave σ.discoveries σ.finishes ++ drop (4 * v) times)) b

-- ---- the columns that `write_stamps` owns

pub own_blank : (v : ℕ) → v ≤ 1024 → (slots : List ℕ) → length slots ≡ 2 * v
    → Blank v slots (discoveries_of (take (2 * v) (replicate 2048 blank_stamp))) (finishes_of (take (2 * v) (replicate 2048 blank_stamp))) (parents_of (take (2 * v) (replicate 2048 blank_stamp))) (starts_of (take (2 * v) (replicate 2048 blank_stamp)))
own_blank v few slots long =
    let zeros : (f : SlotStamp → ℕ) → map f (take (2 * v) (replicate 2048 blank_stamp)) ≡ replicate (2 * v) (f blank_stamp) = λ f. ap (map f) (take_filled (2 * v) 2048 blank_stamp (omega arith)) ∙ map-replicate f (2 * v) blank_stamp in
    record {
      lists = long;
      discs = ap length (zeros (λ x. x.discovery)) ∙ length-replicate (2 * v) 0;
      fins = zeros (λ x. x.finish);
      pars = zeros (λ x. x.parent);
      tops = zeros (λ x. x.start);
    }
