use Rattle.pv_moored.proofs.ReachedLemmas.{appends-or-not}
use Rattle.pv_moored.proofs.laws.appends_to_moored_logs.Goals as goal

pub returns : goal.returns
returns c = λ contents standing armed old new content ok up makes.
    appends-or-not contents standing content ok new.disk armed (c.armed_logs.ensures.appends contents standing armed old new content ok up makes)
