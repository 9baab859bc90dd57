-- Each test fails exactly where the rule fails.
use Rattle.std.proofs.Common.{◌≡◌, ◌<◌, ◌*◌, ◌+◌, ◌-◌, Option, Some, unwrap_or, get_or, arith, refl, sym, ap, subst, ◌∙◌}
use borrow.Author.Rules.{rules}
use lib.IntN.{ℤ, pos}
use mir.Facts.{to_z-of_z}
use mir.Syntax.{w32}
use mir.Val.{SFits, to_z, of_z}
use Rattle.base.specs.Decide.{says_yes, says_no}
use Rattle.literal.proofs.Signed.{bits_eq}
use Rattle.stamps.proofs.Scan.{Scanning, parent_by, start_by, same_open, scanning_done, scan_enter, enter_must, scan_leave_root, scan_leave, leave_must}
use Rattle.stamps.proofs.scan_times.Goals as goal
use Rattle.stamps.proofs.scan_times.Goals.{then-links-k-via-then-links-k, then-links-k-via-else-links-k+then-links-k-2}
use Rattle.stamps.proofs.scan_times.Goals.{then-k-eq0+else-links-k+else-links-k-2, else-k-eq0+in-Some+else-open-l+then-parent-l, else-k-eq0+in-Some+else-open-l+else-parent-l}

-- what is asked of the links, at a literal as it is read
asked : (current : Option (ℤ × ℤ)) {l m : ℤ} {r : ℤ × ℤ} → SFits w32 l → l ≡ m → r ≡ unwrap_or current (to_z w32 (of_z w32 l), to_z w32 (of_z w32 l)) → (r.0 ≡ parent_by current m) × (r.1 ≡ start_by current m)
asked current f e u =
    let z = to_z-of_z f ∙ e in
    let p = u ∙ ap (λ (x : ℤ). unwrap_or current (x, x)) z in
    (ap (λ (x : ℤ × ℤ). x.0) p, ap (λ (x : ℤ × ℤ). x.1) p)

pub returns-then-links-k : goal.returns-then-links-k
returns-then-links-k c = λ times I.
    let a = c.args in
    let l = c.loop-place in
    let k = get_or a.index.now l.place-index 0 - 1 in
    let lt : l.place-index < 4 * a.v = omega arith in
    let f : SFits w32 c.lit_at-l.result = search rules in
    let q = asked l.current f c.lit_at-l.ensures c.unwrap_or-parent.ensures in
    elim c.then-links-k.branch [
      | then-links-k-via-then-links-k w ↦ says_no (λ F. w.if-links-k.true (ap (of_z w32) ((enter_must a.v a.index.now a.links.now l.place-index l.current l.invariant lt k refl c.if-k-eq0.true times I F).0 ∙ sym q.0)))
      | then-links-k-via-else-links-k+then-links-k-2 w ↦ says_no (λ F. w.if-links-k-2.true (ap (of_z w32) ((enter_must a.v a.index.now a.links.now l.place-index l.current l.invariant lt k refl c.if-k-eq0.true times I F).1 ∙ sym q.1)))
    ]

pub returns-in_default : goal.returns-in_default
returns-in_default c = λ times I.
    let a = c.args in
    let l = c.loop-place in
    let k = get_or a.index.now l.place-index 0 - 1 in
    let lt : l.place-index < 4 * a.v = omega arith in
    says_no (λ F. c.in_default.not-Some _ (leave_must a.v a.index.now a.links.now l.place-index l.current l.invariant lt k refl c.if-k-eq0.false times I F))

pub returns-then-open-l : goal.returns-then-open-l
returns-then-open-l c = λ times I.
    let a = c.args in
    let l = c.loop-place in
    let k = get_or a.index.now l.place-index 0 - 1 in
    let lt : l.place-index < 4 * a.v = omega arith in
    says_no (λ F.
    let m = leave_must a.v a.index.now a.links.now l.place-index l.current l.invariant lt k refl c.if-k-eq0.false times I F in
    c.if-open-l.true (ap (of_z w32) ((same_open _ _ _ _ (sym c.in-Some.is ∙ m)).0 ∙ sym c.lit_at-l.ensures)))

pub loop-place-preserved : goal.loop-place-preserved
loop-place-preserved c =
    let a = c.args in
    let l = c.loop-place in
    let k = get_or a.index.now l.place-index 0 - 1 in
    let lt : l.place-index < 4 * a.v = omega arith in
    let f : SFits w32 c.lit_at-l.result = search rules in
    let lit = to_z-of_z f ∙ c.lit_at-l.ensures in
    let after : Option (ℤ × ℤ) → Type 0 = λ (x : Option (ℤ × ℤ)). Scanning a.v a.index.now a.links.now (l.place-index + 1) x in
    elim c.if-k-eq0.branch [
      | then-k-eq0+else-links-k+else-links-k-2 w ↦
          let r = w.unwrap_or-parent.result in
          let g : SFits w32 (get_or a.links.now k (pos 0)) = search rules in
          let g₁ : SFits w32 (get_or a.links.now (k + 1) (pos 0)) = search rules in
          let h : SFits w32 r.0 = search rules in
          let h₁ : SFits w32 r.1 = search rules in
          let q = asked l.current f c.lit_at-l.ensures w.unwrap_or-parent.ensures in
          subst after (sym (w.current-is ∙ (λ i. Some (lit i, (to_z-of_z h₁ ∙ q.1) i))))
          (scan_enter a.v a.index.now a.links.now l.place-index l.current l.invariant lt k refl w.if-k-eq0.true (bits_eq g h w.if-links-k.false ∙ q.0) (bits_eq g₁ h₁ w.if-links-k-2.false ∙ q.1))
      | else-k-eq0+in-Some+else-open-l+then-parent-l w ↦
          let g₂ : SFits w32 (get_or a.links.now (k - 1) (pos 0)) = search rules in
          let o : SFits w32 w.in-Some.open = search rules in
          subst after (sym w.current-is)
          (scan_leave_root a.v a.index.now a.links.now l.place-index l.current l.invariant lt k refl w.if-k-eq0.false w.in-Some.start
          (w.in-Some.is ∙ (λ i. Some ((bits_eq o f w.if-open-l.false ∙ c.lit_at-l.ensures) i, w.in-Some.start))) (bits_eq g₂ f w.if-parent-l.true ∙ c.lit_at-l.ensures))
      | else-k-eq0+in-Some+else-open-l+else-parent-l w ↦
          let g₂ : SFits w32 (get_or a.links.now (k - 1) (pos 0)) = search rules in
          let o : SFits w32 w.in-Some.open = search rules in
          let o₁ : SFits w32 w.in-Some.start = search rules in
          subst after (sym (w.current-is ∙ (λ i. Some (to_z-of_z g₂ i, to_z-of_z o₁ i))))
          (scan_leave a.v a.index.now a.links.now l.place-index l.current l.invariant lt k refl w.if-k-eq0.false w.in-Some.start
          (w.in-Some.is ∙ (λ i. Some ((bits_eq o f w.if-open-l.false ∙ c.lit_at-l.ensures) i, w.in-Some.start))) (λ q. w.if-parent-l.false (ap (of_z w32) (q ∙ sym c.lit_at-l.ensures))))
    ]

pub returns : goal.returns
returns c = λ times I. says_yes (scanning_done c.args.v c.args.index.now c.args.links.now c.loop-place.place-index c.loop-place.current c.loop-place.invariant (omega arith) times I)
