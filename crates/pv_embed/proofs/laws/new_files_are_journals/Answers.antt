use Rattle.std.proofs.Common.{refl, [], ◌<◌, ◌^◌, ℕ, List, length, arith}
use Rattle.std.proofs.lemmas.List.Elements.{All-nil}
use Rattle.pv_embed.proofs.laws.new_files_are_journals.Goals as goal

pub returns : goal.returns
returns c = record { short = All-nil (λ (content : List ℕ). length content < 2 ^ 32); gate = 0; rest = []; closed = λ same. absurd (omega arith); is = refl }
