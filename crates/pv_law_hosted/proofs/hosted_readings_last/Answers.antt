use Rattle.std.proofs.Common.{◌++◌}
use Rattle.pv_law_hosted.proofs.OutcomeLemmas.{later-acts, world-reached}
use Rattle.pv_law_hosted.proofs.hosted_readings_last.Goals as goal
use Rattle.pv_law_hosted.specs.Mirrored.{world_of}

pub returns : goal.returns
returns c setup d events more hosted assignment part i item mirrored is here written readable well fits cut =
    c.hosted_sites_agree.ensures.shown setup d events hosted part i item mirrored is here written readable
    (c.what_is_open_was_open.ensures.fits setup (world_of setup events) (world_of setup (events ++ more)) assignment part
    (world-reached setup events (c.runs_are_reached.ensures.run setup events mirrored.well))
    (later-acts setup events more (c.runs_are_reached.ensures.run setup (events ++ more) well)) fits cut)
