-- What is written is the grant's bytes.
use Rattle.std.proofs.Common.{◌≡◌, ◌++◌, ℕ, List, subst}
use Rattle.std.specs.Prelude.{OnOk}
use Rattle.pv_wire.proofs.fields.put_grant.Goals as goal

pub returns : goal.returns
returns c = λ bytes spells.
    subst (λ (written : List ℕ). OnOk c.bytes.result (c.bytes.new.self.bytes ≡ c.args.put.now.bytes ++ written)) (c.grant_bytes.ensures bytes spells) c.bytes.ensures.written
