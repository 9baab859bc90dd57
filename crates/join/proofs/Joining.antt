-- Two texts that fit: the right one's numbers, renumbered, behind the left one's are the numbers of the join's clauses. Assumes nothing.
use Prim.Native.Nat.{ℕ, zero, suc, ◌+◌, ◌-◌, ◌≤◌, ◌<◌}
use native.Mathlib.Omega.{arith}
use mathlib.Core.Path.{◌≡◌, refl, sym, ap, subst, ◌∙◌}
use mathlib.Core.Bool.{Bool, true, ◌&&◌}
use mathlib.Core.List.{List, [], ◌∷◌, ◌++◌, map, map-append}
use lib.ListN.{length, get_or, drop, take, length-append, length-map}
use lib.Seq.{sets, sets-eq, take_at, length-take-le, get_or-take}
use lib.Dec.{leb}
use lib.IntN.{ℤ, pos, nat_abs}
use lib.Signed.{non_neg}
use Rattle.literal.specs.Literals.{sign_by}
use Rattle.literal.specs.Ranged.{InClause, InClauses, total}
use Rattle.literal.proofs.Ranged.{in_all, in_append, total_append}
use Rattle.dimacs.specs.Numbers.{clauses_in}
use Rattle.join.specs.Links.{pair_count, first_bad, link_of, joined_variables, renumbered, renumbered_clauses}
use Rattle.join.specs.Join.{within_limits}
use Rattle.join.specs.FunctionContracts.{LinksPut, Numbered, numbered_by, Renumberable, Kept, both_in}
use Rattle.join.proofs.RightNumbers.{Linked, links_right, link_pair, number_within, unlinked_most, renumbered_in, renumbered_total}
use Rattle.join.proofs.Within.{limits}
use Rattle.join.proofs.Counting.{size_in, numbers_of, numbers_are, numbers_length, numbers_append, clauses_back}

-- ---- the right text's numbers by the table

module _ {v w : ℕ} {links numbering : List ℕ} (L : Linked v w links) (N : Numbered v w links numbering) where
  -- 0 is no right variable
  nought_linked : link_of links 0 ≡ 0
  nought_linked = go (link_of links 0) refl
    where
      go : (k : ℕ) → link_of links 0 ≡ k → link_of links 0 ≡ 0
      go zero e = e
      go (suc l) e = let p = link_pair links (pair_count links) 0 l e in absurd (omega (arith, L.right p.0 p.1, p.2))

  nought_is : numbered_by numbering (pos 0) ≡ pos 0
  nought_is = ap pos (N.nought ∙ nought_linked)

  literals_are : (c : List ℤ) → InClause w c → map (numbered_by numbering) c ≡ map (renumbered v links) c
  unfolding InClause renumbered
  literals_are [] I = refl
  literals_are (l ∷ c) I = λ i. sign_by (non_neg l) (pos (N.is (nat_abs l) I.0 I.1.0 i)) ∷ literals_are c I.1.1 i

  numbers_renumbered : (ds : List (List ℤ)) → InClauses w ds → map (numbered_by numbering) (numbers_of ds) ≡ numbers_of (renumbered_clauses v links ds)
  unfolding numbers_of InClauses
  numbers_renumbered [] I = refl
  numbers_renumbered (d ∷ ds) I = map-append (numbered_by numbering) d (pos 0 ∷ numbers_of ds) ∙ (λ i. literals_are d I.0 i ++ (nought_is i ∷ numbers_renumbered ds I.1 i))

-- ---- the numbers

-- the numbers of the clauses stand in front
front_is : {v n : ℕ} {numbers : List ℤ} → Kept v n numbers → take (size_in n numbers) numbers ≡ numbers_of (clauses_in n numbers)
front_is {v} {n} {numbers} K =
    let h : size_in n numbers ≤ length numbers = omega (arith, K.size, K.most, K.room) in
    ap (take (size_in n numbers)) (numbers_are n numbers h) ∙ take_at (numbers_of (clauses_in n numbers)) (drop (size_in n numbers) numbers) (size_in n numbers) (numbers_length (clauses_in n numbers) ∙ omega (arith, K.count))

-- each is a literal's, or 0
in_behind : (v : ℕ) (c rest : List ℤ) → InClause v c → ((k : ℕ) → nat_abs (get_or rest k (pos 0)) ≤ v) → (k : ℕ) → nat_abs (get_or (c ++ (pos 0 ∷ rest)) k (pos 0)) ≤ v
unfolding InClause
in_behind v [] rest I h zero = omega arith
in_behind v [] rest I h (suc k) = h k
in_behind v (l ∷ c) rest I h zero = I.1.0
in_behind v (l ∷ c) rest I h (suc k) = in_behind v c rest I.1.1 h k

in_numbers : (v : ℕ) (cs : List (List ℤ)) → InClauses v cs → (k : ℕ) → nat_abs (get_or (numbers_of cs) k (pos 0)) ≤ v
unfolding numbers_of InClauses
in_numbers v [] I k = omega arith
in_numbers v (c ∷ cs) I k = in_behind v c (numbers_of cs) I.0 (in_numbers v cs I.1) k

-- ---- two texts that fit, by the numbers that were kept of them, with the table of the right variables' numbers, and where their own numbers end
pub record Both (v n w m : ℕ) (links numbering : List ℕ) (numbers others : List ℤ) (end size : ℕ) : Type 0 where
  pub lefts : Kept v n numbers
  pub rights : Kept w m others
  pub linked : Linked v w links
  pub numbered : Numbered v w links numbering
  pub ends : end ≡ size_in n numbers
  pub sized : size ≡ size_in m others

-- by what the links, the right variables' numbers and the sizes were found to be
pub both_are : {v n w m : ℕ} {links numbering numbering' : List ℕ} {numbers others : List ℤ} {last end size : ℕ} → Kept v n numbers → Kept w m others
    → (first_bad v w links ≡ pair_count links) × LinksPut links numbering
    → ((ls : List ℕ) → LinksPut ls numbering → (last ≡ joined_variables v w ls) × Numbered v w ls numbering')
    → end ≡ size_in n numbers → size ≡ size_in m others → Both v n w m links numbering' numbers others end size × (last ≡ joined_variables v w links)
both_are {v} {n} {w} {m} {links} L R told numbered ends sized =
    let r = numbered links told.1 in
    (record { lefts = L; rights = R; linked = links_right v w links (omega (arith, told.0)); numbered = r.1; ends = ends; sized = sized }, r.0)

module _ {v n w m : ℕ} {links numbering : List ℕ} {numbers others : List ℤ} {end size : ℕ} (B : Both v n w m links numbering numbers others end size) where
  abbrev cs : List (List ℤ)
  cs = clauses_in n numbers

  abbrev ds : List (List ℤ)
  ds = clauses_in m others

  abbrev both : List (List ℤ)
  both = both_in v n links m numbers others

  both_total : total both ≡ total cs + total ds
  both_total = omega (arith, total_append cs (renumbered_clauses v links ds), renumbered_total v links ds)

  both_length : length both ≡ n + m
  both_length = omega (arith, length-append cs (renumbered_clauses v links ds), length-map ds (map (renumbered v links)), B.lefts.count, B.rights.count)

  both_in_lem : InClauses (joined_variables v w links) both
  both_in_lem = in_append (joined_variables v w links) cs (renumbered_clauses v links ds) (in_all v (joined_variables v w links) cs (omega arith) B.lefts.each) (renumbered_in v w links B.linked ds B.rights.each)

  -- the literals as written
  pub written_are : end + size - (n + m) ≡ total both
  written_are = omega (arith, B.ends, B.sized, both_total)

  -- the tests of the limits
  pub limits_are : {all : ℕ} {r : Bool} → all ≡ joined_variables v w links → r ≡ (leb all 1024 && (leb (n + m) 4096 && leb (end + size - (n + m)) 16384)) → r ≡ within_limits (joined_variables v w links) (n + m) both
  limits_are ea q = q ∙ (λ i. leb (ea i) 1024 && (leb (n + m) 4096 && leb (written_are i) 16384))

  items : take size others ≡ numbers_of ds
  items = ap (λ (k : ℕ). take k others) B.sized ∙ front_is B.rights

  item_is : (k : ℕ) → k < size → get_or others k (pos 0) ≡ get_or (numbers_of ds) k (pos 0)
  item_is k h = sym (get_or-take size others k (pos 0) h) ∙ ap (λ (l : List ℤ). get_or l k (pos 0)) items

  item_low : (k : ℕ) → k < size → nat_abs (get_or others k (pos 0)) ≤ w
  item_low k h = subst (λ (z : ℤ). nat_abs z ≤ w) (sym (item_is k h)) (in_numbers w ds B.rights.each k)

  number_low : (x : ℕ) → x ≤ w → get_or numbering x 0 < 65536
  number_low zero h = omega (arith, B.numbered.nought, nought_linked B.linked B.numbered)
  number_low (suc x) h = omega (arith, B.numbered.is (suc x) (omega arith) h, number_within links v w B.linked (suc x) h, unlinked_most links w, B.lefts.few, B.rights.few)

  module _ (fits : within_limits (joined_variables v w links) (n + m) both ≡ true) where
    within : (joined_variables v w links ≤ 1024) × ((n + m ≤ 4096) × (total both ≤ 16384))
    within = limits (joined_variables v w links) (n + m) both fits

    pub renumberable : Renumberable numbering others size end (length numbers)
    renumberable = record {
      table = B.numbered.room;
      some = omega (arith, B.sized, B.rights.size, B.rights.most, B.rights.room);
      fits = omega (arith, B.sized, B.ends, both_total, within, B.lefts.room);
      ranged = λ k h. omega (arith, item_low k h, B.rights.few);
      small = λ k h. number_low (nat_abs (get_or others k (pos 0))) (item_low k h);
    }

    module _ {numbers' : List ℤ} (put : numbers' ≡ sets numbers end (map (numbered_by numbering) (take size others))) where
      put_are : numbers' ≡ numbers_of both ++ drop (end + length (map (numbered_by numbering) (take size others))) numbers
      put_are =
          let xs : List ℤ = map (numbered_by numbering) (take size others) in
          let many : length xs ≡ size = length-map (take size others) (numbered_by numbering) ∙ length-take-le size others renumberable.some in
          put ∙ sets-eq xs numbers end (omega (arith, many, renumberable.fits))
          ∙ ap (λ (l : List ℤ). l ++ drop (end + length xs) numbers)
          ((λ i. (ap (λ (k : ℕ). take k numbers) B.ends ∙ front_is B.lefts) i ++ (ap (map (numbered_by numbering)) items ∙ numbers_renumbered B.linked B.numbered ds B.rights.each) i) ∙ sym (numbers_append cs (renumbered_clauses v links ds)))

      -- THE LAW: the clauses in them are the join's
      pub clauses_joined : clauses_in (n + m) numbers' ≡ both
      clauses_joined = (λ i. clauses_in (sym both_length i) (put_are i)) ∙ clauses_back (joined_variables v w links) both (drop (end + length (map (numbered_by numbering) (take size others))) numbers) both_in_lem
