use Rattle.search.proofs.Ending.{lands_in, lands-first, lands-holds, lands-decided}
use Rattle.search.proofs.Fitting.{entry-has-key, key-part}
use Rattle.search.specs.Rules.{keyAt}
use Rattle.search.specs.Search.{seek_in}
use Rattle.lists.proofs.Decides.{decided_true, decided-false}
use Rattle.entries.specs.Keys.{segment_of, lookup_key, slot_key}
use mathlib.Core.Path.{◌≡◌, sym, ap, ◌∙◌}
use native.Mathlib.Omega.{arith}
use Rattle.search.proofs.rules.lands.Goals as goal

pub returns-then-not-ends_at : goal.returns-then-not-ends_at
returns-then-not-ends_at c =
    λ q. decided-false c.ends_at.result c.ends_at.ensures c.if-not-ends_at.true
    (lands_in c.args.z c.args.img.now c.args.t c.args.j q)

pub returns-then-t-s : goal.returns-then-t-s
returns-then-t-s c =
    lands-first c.args.z c.args.img.now c.args.t c.args.j
    (decided_true
    {P = seek_in c.args.z c.args.img.now (keyAt c.args.z c.args.img.now c.args.t c.args.j)
    c.args.t
    ≡ c.args.j}
    c.ends_at.result c.ends_at.ensures c.if-not-ends_at.false)
    c.args.s c.requires.fits c.requires.slot.tier.segment_in c.requires.slot.tier.chains.chain_tiers
    c.requires.slot.tier.tier_in c.requires.slot.full c.if-t-s.true

pub overflow_add-to : goal.overflow_add-to
overflow_add-to c =
    let key =
    entry-has-key c.args.z c.args.img.now c.args.t c.args.j
    (record { framed = c.requires.slot.tier.chains.framed; tier_in = c.requires.slot.tier.tier_in }) c.requires.fits.whole c.entry_at-e.result
    c.entry_at-e.ensures in
    omega (arith, key.key_inside, key.framed.small)

pub slice_bounds-comes_to-end : goal.slice_bounds-comes_to-end
slice_bounds-comes_to-end c =
    let key =
    entry-has-key c.args.z c.args.img.now c.args.t c.args.j
    (record { framed = c.requires.slot.tier.chains.framed; tier_in = c.requires.slot.tier.tier_in }) c.requires.fits.whole c.entry_at-e.result
    c.entry_at-e.ensures in
    omega (arith, key.key_inside)

pub comes_to-requires : goal.comes_to-requires
comes_to-requires c =
    record {
      tier = c.requires.slot.tier;
      segment_is = sym
          (ap (segment_of c.args.z.settings)
          (key-part c.args.z c.args.img.now c.args.t c.args.j c.entry_at-e.result c.entry_at-e.ensures)
          ∙ c.requires.fits.hashed.segment_agrees);
      lookup_is = c.slot_key-lookup.ensures ∙ ap (slot_key c.args.z.settings) c.slot.ensures ∙ sym
          (ap (lookup_key c.args.z.settings)
          (key-part c.args.z c.args.img.now c.args.t c.args.j c.entry_at-e.result c.entry_at-e.ensures)
          ∙ c.requires.fits.hashed.lookup_agrees);
      holds = lands-holds c.args.z c.args.img.now c.args.t c.args.j
          (decided_true
          {P = seek_in c.args.z c.args.img.now
          (keyAt c.args.z c.args.img.now c.args.t c.args.j) c.args.t
          ≡ c.args.j}
          c.ends_at.result c.ends_at.ensures c.if-not-ends_at.false)
          _ (key-part c.args.z c.args.img.now c.args.t c.args.j c.entry_at-e.result c.entry_at-e.ensures)
          c.requires.slot.full;
    }

pub returns : goal.returns
returns c =
    lands-decided c.args.z c.args.img.now c.args.t c.args.j
    (decided_true
    {P = seek_in c.args.z c.args.img.now (keyAt c.args.z c.args.img.now c.args.t c.args.j)
    c.args.t
    ≡ c.args.j}
    c.ends_at.result c.ends_at.ensures c.if-not-ends_at.false)
    _ (key-part c.args.z c.args.img.now c.args.t c.args.j c.entry_at-e.result c.entry_at-e.ensures)
    c.comes_to.result c.comes_to.ensures
