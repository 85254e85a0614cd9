use Prim.Native.Nat.{◌<◌}
use mathlib.Core.Path.{◌≡◌, sym, ◌∙◌}
use lib.ListN.{length}
use Rattle.entries.specs.Live.{full_slots}
use native.Mathlib.Omega.{arith}
use Rattle.unlinking.proofs.Emptied.{main-stays, full-stays, empty-goes, count-asks, count-is, unlink-asks}
use Rattle.unlinking.proofs.unlink_empty.Goals as goal

pub returns-then-t-z : goal.returns-then-t-z
returns-then-t-z c = sym (main-stays c.args.z c.args.img.now c.args.t (omega (arith, c.if-t-z.true)))

pub shared-requires : goal.shared-requires
shared-requires c = count-asks c.args.z c.args.img.now c.args.t (omega (arith, c.if-t-z.false)) c.requires

pub returns-then-shared-ne0 : goal.returns-then-shared-ne0
returns-then-shared-ne0 c =
    let extra : c.args.z.settings.segments < c.args.t = omega (arith, c.if-t-z.false) in
    sym (full-stays c.args.z c.args.img.now c.args.t extra
    (λ e. c.if-shared-ne0.true (c.shared.ensures ∙ count-is c.args.z c.args.img.now c.args.t extra c.requires ∙ e)))

pub unlink-requires : goal.unlink-requires
unlink-requires c = unlink-asks c.args.z c.args.img.now c.args.t (omega (arith, c.if-t-z.false)) c.requires

pub returns : goal.returns
returns c =
    let extra : c.args.z.settings.segments < c.args.t = omega (arith, c.if-t-z.false) in
    let none : length (full_slots c.args.z c.args.img.now c.args.t) ≡ 0 = sym (count-is c.args.z c.args.img.now c.args.t extra c.requires) ∙ sym
    c.shared.ensures ∙ c.if-shared-ne0.false in
    c.unlink.ensures ∙ sym (empty-goes c.args.z c.args.img.now c.args.t extra none)
