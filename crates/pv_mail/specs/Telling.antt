-- What is handed to the rings of clients.
use Rattle.std.specs.Prelude.{◌≡◌, ◌⊎◌, ℕ, ◌<◌, ◌==◌, Option, Some, None, List, [], ◌∷◌, length, if◌then◌else◌, vec_capacity, Vec}
use Rattle.pv_post.specs.declared.outlet.Out.{Out}
use Rattle.pv_rings.specs.Rings.{Each, Hands, HandsEach}
use Rattle.pv_script.specs.declared.line.Line.TheVariants as line
use Rattle.pv_mail.specs.Answers.{AllTell, Told, told_to}
use Rattle.pv_mail.specs.declared.answer.Answer.{Answer}
use Rattle.pv_mail.specs.declared.answer.What.TheVariants as what
use Rattle.pv_mail.specs.declared.asked.Asker.{Asker}
use Rattle.pv_mail.specs.declared.asked.Begun.{Begun}

-- Each client's ring is handed the answers that say what this client is to hear, made when the history had so many entries.
abbrev pub TellsAll : ℕ → List Told → List (Out Answer) → List (Out Answer) → Type 0
TellsAll seen all old new = HandsEach (λ client answers. AllTell seen answers (told_to client all)) old new

-- The client's ring is handed this answer.
abbrev pub TellsOne : ℕ → Answer → List (Out Answer) → List (Out Answer) → Type 0
TellsOne to answer old new = Each (λ client one other. Hands (if client == to then answer ∷ [] else []) one other) old new

-- The client, if there is one, is told that this site is down. That takes no memory.
abbrev pub TellsDownTo : (me seen : ℕ) → Option Asker → List (Out Answer) → List (Out Answer) → Type 0
TellsDownTo me seen (Some asker) old new =
    TellsOne asker.client (record { number = asker.number; seen = seen; what = what.Line (line.Down (record { 0 = me })) }) old new
TellsDownTo me seen None old new = new ≡ old

-- The client, if there is one, is told that there was no memory.
abbrev pub TellsLossTo : ℕ → Option Asker → List (Out Answer) → List (Out Answer) → Type 0
TellsLossTo seen (Some asker) old new = TellsOne asker.client (record { number = asker.number; seen = seen; what = what.NoMemory }) old new
TellsLossTo seen None old new = new ≡ old

-- Where somebody asked, there is room for one more that is begun.
abbrev pub HasRoomFor : {A : Type 0} → Option Asker → Vec Begun A → Type 0
HasRoomFor asker begun = (asker ≡ None) ⊎ (length begun.items < vec_capacity begun)
