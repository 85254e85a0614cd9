use mathlib.Core.Path.{sym, ◌∙◌}
use native.Mathlib.Omega.{arith}
use Rattle.layout.proofs.Frames.{store_size_get}
use Rattle.layout.proofs.frame_fits.Goals as goal

pub returns-then-read_le8-end : goal.returns-then-read_le8-end
returns-then-read_le8-end c =
    λ f. c.if-read_le8-end.true (c.read_le8.ensures ∙ sym (store_size_get c.args.z c.args.img.now) ∙ f.store_size_is ∙ sym c.store_end-end.ensures)

pub returns : goal.returns
returns c =
    record {
      image_length = c.requires.1;
      headers_after = c.if-z.false;
      tier_count = omega (arith, c.if-tier_count-gt-MOST_TIERS.false, c.tier_count.ensures);
      store_size_is =
          store_size_get c.args.z c.args.img.now ∙ sym c.read_le8.ensures ∙ c.if-read_le8-end.false
          ∙ c.store_end-end.ensures;
      store_within = omega (arith, c.if-img-end.false, c.store_end-end.ensures);
    }
