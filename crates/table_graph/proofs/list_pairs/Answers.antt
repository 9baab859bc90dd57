use Rattle.std.proofs.Common.{◌≡◌, ℕ, ◌+◌, ◌≤◌, ◌<◌, List, get_or, ℤ, pos, nat_abs, to_z, of_z, w32, ap, subst, ◌∙◌, arith}
use Rattle.literal.specs.Literals.{slot_of, Literal, Small}
use Rattle.literal.proofs.Laws.{slot_below}
use Rattle.literal.proofs.Signed.{back}
use Rattle.tables.specs.Tables.{start_of, length_of}
use Rattle.implications.proofs.EdgeLists.{many_froms, many_tos}
use Rattle.table_graph.specs.Pairs.{ClausesInside}
use Rattle.table_graph.proofs.Pairing.{pairing_in, pairing_out, pairing_done}
use Rattle.table_graph.proofs.list_pairs.Goals as goal
use Rattle.table_graph.proofs.list_pairs.Goals.{then-is_pair, else-is_pair}

-- a clause of two literals or more: that its first two are of the variables
module _ {n : ℕ} {cs : List ℕ} {ls : List ℤ} (C : ClausesInside 1024 n cs ls) {i : ℕ} (lt : i < n) (two : 2 ≤ length_of cs i) where
  second : Literal 1024 (get_or ls (start_of cs i + 1) (pos 0))
  second = C.each i lt 1 (omega (arith, two))

  first : Literal 1024 (get_or ls (start_of cs i) (pos 0))
  first = subst (λ (k : ℕ). Literal 1024 (get_or ls k (pos 0))) (let z : start_of cs i + 0 ≡ start_of cs i = omega arith in z) (C.each i lt 0 (omega (arith, two)))

-- a literal as a local holds it, and its slot
small : {l : ℤ} → Literal 1024 l → Small l
small L = record { small = omega (arith, L.within) }

takes : {l : ℤ} → Literal 1024 l → (0 < nat_abs (to_z w32 (of_z w32 l))) × Small (to_z w32 (of_z w32 l))
takes L = rw (back (small L)) (L.above, small L)

slot : {l : ℤ} {r : ℕ} → Literal 1024 l → r ≡ slot_of (to_z w32 (of_z w32 l)) → r ≡ slot_of l
slot L e = e ∙ ap slot_of (back (small L))

low : {l : ℤ} {r : ℕ} → Literal 1024 l → r ≡ slot_of (to_z w32 (of_z w32 l)) → r < 2048
low {l} L e = omega (arith, slot L e, slot_below l 1024 L.above L.within)

pub slot_of-a-requires : goal.slot_of-a-requires
slot_of-a-requires c = takes (first c.requires.clauses_inside c.loop-i-test.true (omega arith))

pub slot_of-b-requires : goal.slot_of-b-requires
slot_of-b-requires c = takes (second c.requires.clauses_inside c.loop-i-test.true (omega arith))

pub put_pair-requires : goal.put_pair-requires
put_pair-requires c =
    let C = c.requires.clauses_inside in
    let two : 2 ≤ length_of c.args.clauses.now c.loop-i.i = omega arith in (
      omega (arith, low (first C c.loop-i-test.true two) c.slot_of-a.ensures),
      (
        omega (arith, low (second C c.loop-i-test.true two) c.slot_of-b.ensures),
        (omega (arith, many_froms c.loop-i.edges, many_froms c.args.edges.now), omega (arith, many_tos c.loop-i.edges, many_tos c.args.edges.now)),
      ),
    )

pub loop-i-preserved : goal.loop-i-preserved
loop-i-preserved c =
    let C = c.requires.clauses_inside in
    let lt = c.loop-i-test.true in
    let P = c.loop-i.invariant in
    elim c.if-is_pair.branch [
      | then-is_pair w ↦
          let two : 2 ≤ length_of c.args.clauses.now c.loop-i.i = omega arith in
          rw (w.edges-is, w.k-is)
          (pairing_in _ _ _ _ _ _ _ _ _ lt C P _ _ _ _ (omega arith) (slot (first C lt two) w.slot_of-a.ensures) (slot (second C lt two) w.slot_of-b.ensures) w.put_pair.ensures.0 w.put_pair.ensures.1)
      | else-is_pair w ↦ rw (w.edges-is, w.k-is) (pairing_out _ _ _ _ _ _ _ _ _ lt C P (λ e. omega arith))
    ]

pub returns : goal.returns
returns c = pairing_done _ _ _ _ _ _ _ _ _ c.loop-i-test.false c.loop-i.invariant
