-- What clauses about a success say together.
use Rattle.std.proofs.Common.{Result, Ok, Err, IfOk}

-- Two facts of the value of a result give a third one.
pub both-ok : {T E : Type 0} (P Q R : T → Type 0) (result : Result T E) → IfOk result P → IfOk result Q → ((x : T) → P x → Q x → R x) → IfOk result R
both-ok P Q R (Ok x) p q all = all x p q
both-ok P Q R (Err e) p q all = p
