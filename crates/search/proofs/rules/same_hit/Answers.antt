use native.Mathlib.Omega.{arith}
use mathlib.Core.Path.{sym, ap, ◌∙◌}
use Rattle.entries.specs.Keys.{lookup_key}
use Rattle.search.specs.Search.{hits}
use Rattle.search.proofs.Fitting.{entry-has-key, key-part}
use Rattle.search.proofs.rules.same_hit.Goals as goal

pub overflow_add-to : goal.overflow_add-to
overflow_add-to c =
    let key =
    entry-has-key c.args.z c.args.img.now c.args.t c.args.j c.requires.key.slot.tier c.requires.key.fits.whole
    c.entry_at-e.result c.entry_at-e.ensures in
    omega (arith, key.key_inside, key.framed.small)

pub slice_bounds-hits-end : goal.slice_bounds-hits-end
slice_bounds-hits-end c =
    let key =
    entry-has-key c.args.z c.args.img.now c.args.t c.args.j c.requires.key.slot.tier c.requires.key.fits.whole
    c.entry_at-e.result c.entry_at-e.ensures in
    omega (arith, key.key_inside)

pub hits-requires : goal.hits-requires
hits-requires c =
    record {
      tier = record { framed = c.requires.key.slot.tier.framed; tier_in = c.requires.tier_in };
      lookup_is = c.requires.key.lookup_is ∙ ap (lookup_key c.args.z.settings)
          (sym (key-part c.args.z c.args.img.now c.args.t c.args.j c.entry_at-e.result c.entry_at-e.ensures));
    }

pub returns : goal.returns
returns c =
    c.hits.ensures ∙ ap (λ k. hits c.args.z c.args.img.now k c.args.u c.args.v)
    (key-part c.args.z c.args.img.now c.args.t c.args.j c.entry_at-e.result c.entry_at-e.ensures)
