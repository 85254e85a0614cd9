use Rattle.std.proofs.lemmas.Result.{err_from_is_err_and}
use Rattle.image.proofs.Stages.{frame_refused, framed-here, chains-refused, chains-here, tiers-here, examined}
use mathlib.Core.Path.{sym, ◌∙◌}
use Rattle.image.proofs.examine_image.Goals as goal

pub returns-in_default : goal.returns-in_default
returns-in_default c = frame_refused c.args.st c.args.img.now (sym c.frame_of.ensures ∙ c.in_default.is)

pub chains_of-requires : goal.chains_of-requires
chains_of-requires c = framed-here c.args.st c.args.img.now c.requires c.in-Some.z (sym c.frame_of.ensures ∙ c.in-Some.is)

pub returns-in_default-chains_of : goal.returns-in_default-chains_of
returns-in_default-chains_of c =
    chains-refused c.args.st c.args.img.now c.requires c.in-Some.z (sym c.frame_of.ensures ∙ c.in-Some.is)
    (sym c.chains_of.ensures ∙ c.in_default-chains_of.is)

pub contents_of-requires : goal.contents_of-requires
contents_of-requires c =
    let frame = sym c.frame_of.ensures ∙ c.in-Some.is in
    let chains = sym c.chains_of.ensures ∙ c.in-Some-chains_of.is in
    record {
      chains = record {
        framed = framed-here c.args.st c.args.img.now c.requires c.in-Some.z frame;
        chain_tiers = tiers-here c.args.st c.args.img.now c.requires c.in-Some.z frame _ _ chains;
      };
      fits = chains-here c.args.st c.args.img.now c.requires c.in-Some.z frame _ _ chains;
    }

pub returns-in_err-entries : goal.returns-in_err-entries
returns-in_err-entries c =
    let refused = err_from_is_err_and c.from_residual.result c.from_residual.ensures.1 in
    rw (refused.1, refused.2)
    (examined c.args.st c.args.img.now c.requires c.in-Some.z (sym c.frame_of.ensures ∙ c.in-Some.is)
    _ _ (sym c.chains_of.ensures ∙ c.in-Some-chains_of.is) c.contents_of.result c.contents_of.ensures _ c.in_err-entries.was)

pub returns : goal.returns
returns c =
    examined c.args.st c.args.img.now c.requires c.in-Some.z (sym c.frame_of.ensures ∙ c.in-Some.is)
    _ _ (sym c.chains_of.ensures ∙ c.in-Some-chains_of.is) c.contents_of.result c.contents_of.ensures _ c.in_ok-entries.was
