use Rattle.placement.proofs.Written.{segment-made}
use Rattle.edit.proofs.Replacing.{sound-framed}
use Rattle.edit.proofs.Storage.{rest-scans, scanned, no_room_lem, run-replaces, run-stored, free-extends, free-stored}
use native.Mathlib.Omega.{arith}
use Rattle.edit.proofs.store_tight.Goals as goal

pub place_for-place-requires : goal.place_for-place-requires
place_for-place-requires c = rest-scans c.requires

pub global-head-requires : goal.global-head-requires
global-head-requires c = sound-framed c.args.z c.args.img.now c.requires.storable.sound

pub returns-then-head-eq0 : goal.returns-then-head-eq0
returns-then-head-eq0 c =
    let w =
    scanned c.requires (λ i. omega (arith, c.type_inv.key i)) (λ i. omega (arith, c.type_inv.value i)) c.place_for-place.ensures in
    no_room_lem w c.global-head.result c.in_default.is c.global-head.ensures c.if-head-eq0.true

pub extend-requires : goal.extend-requires
extend-requires c =
    let w =
    scanned c.requires (λ i. omega (arith, c.type_inv.key i)) (λ i. omega (arith, c.type_inv.value i)) c.place_for-place.ensures in
    free-extends w c.global-head.result c.segment_of_hash-s.result c.in_default.is c.global-head.ensures c.if-head-eq0.false
    (segment-made c.args.z.settings c.args.key.now c.xxh64.ensures c.segment_of_hash-s.ensures.0)

pub returns-in_default : goal.returns-in_default
returns-in_default c =
    let w =
    scanned c.requires (λ i. omega (arith, c.type_inv.key i)) (λ i. omega (arith, c.type_inv.value i)) c.place_for-place.ensures in
    free-stored w c.global-head.result c.segment_of_hash-s.result c.in_default.is c.global-head.ensures c.if-head-eq0.false
    (segment-made c.args.z.settings c.args.key.now c.xxh64.ensures c.segment_of_hash-s.ensures.0) c.extend.ensures

pub replace-requires : goal.replace-requires
replace-requires c =
    let w =
    scanned c.requires (λ i. omega (arith, c.type_inv.key i)) (λ i. omega (arith, c.type_inv.value i)) c.place_for-place.ensures in
    run-replaces w c.in-At.t c.in-At.c c.in-At.is

pub returns : goal.returns
returns c =
    let w =
    scanned c.requires (λ i. omega (arith, c.type_inv.key i)) (λ i. omega (arith, c.type_inv.value i)) c.place_for-place.ensures in
    run-stored w c.in-At.t c.in-At.c c.in-At.is c.replace.ensures
