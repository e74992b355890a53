-- What clients are told along a history.
use Rattle.std.specs.Prelude.{◌≡◌, ℕ, ◌+◌, List, [], ◌∷◌, ◌++◌, All, Contains, get_or, map, ⊤}
use Rattle.pv_history.specs.Entries.{stamps_of}
use Rattle.pv_law_histories.specs.History.{Stamped}
use Rattle.pv_mail.specs.Answers.{Told, begun_by, told_by, told_to}
use Rattle.pv_mail.specs.declared.answer.Answer.{Answer}
use Rattle.pv_mail.specs.declared.answer.What.{What}
use Rattle.pv_mail.specs.declared.answer.What.TheVariants as what
use Rattle.pv_mail.specs.declared.asked.Begun.{Begun}
use Rattle.pv_post.specs.Ends.{offered, posted}
use Rattle.pv_post.specs.declared.outlet.Out.{Out}
use Rattle.pv_protocol.specs.Lines.{Line}
use Rattle.pv_script.specs.LineView.{line_of}
use Rattle.pv_cell.specs.declared.site_box.SiteBox.{SiteBox}

-- a line of a client's request of this number, by an entry with which there are so many
pub record Heard : Type 0 where
  pub number : ℕ
  pub seen : ℕ
  pub line : Line

abbrev pub heard_at : ℕ → Told → Heard
heard_at seen one = record { number = one.asker.number; seen = seen; line = one.line }

-- of these, what this client hears
abbrev pub heard_of : (client seen : ℕ) → List Told → List Heard
heard_of client seen all = map (heard_at seen) (told_to client all)

-- what this client hears of the site of this number along a history, before which so many entries came and this was begun
abbrev pub heard_along : (me client count : ℕ) → List Begun → List Stamped → List Heard
heard_along me client count begun [] = []
heard_along me client count begun (entry ∷ entries) =
    heard_of client (count + 1) (told_by me begun entry.intake entry.came) ++ heard_along me client (count + 1) (begun_by begun entry.intake entry.came) entries

-- what is begun and not decided after a history
abbrev pub begun_along : List Begun → List Stamped → List Begun
begun_along begun [] = begun
begun_along begun (entry ∷ entries) = begun_along (begun_by begun entry.intake entry.came) entries

-- The answer says one of these, or that there was no memory.
abbrev pub IsHeardAs : List Heard → (number seen : ℕ) → What → Type 0
IsHeardAs all number seen (what.Line said) = Contains all (record { number = number; seen = seen; line = line_of said })
IsHeardAs all number seen what.NoMemory = ⊤

abbrev pub IsHeard : List Heard → Answer → Type 0
IsHeard all answer = IsHeardAs all answer.number answer.seen answer.what

-- Each line that was handed to a client's ring is one that the history tells that client, at its entry; and the ring took of what it was handed alone.
pub record IsTold (me : ℕ) (history : List Stamped) (undecided : List Begun) (outs : List (Out Answer)) : Type 0 where
  pub begun : undecided ≡ begun_along [] history
  pub said : (client : ℕ) → All (IsHeard (heard_along me client 0 [] history)) (get_or (map offered outs) client [])
  pub held : (client : ℕ) → All (λ one. Contains (get_or (map offered outs) client []) one.0) (get_or (map posted outs) client [])

-- What the box told its clients is by its history.
abbrev pub TellsItsHistory : {W : Type 0} → SiteBox W → Type 0
TellsItsHistory box = IsTold box.site.me (stamps_of box.history.items) box.begun.items box.ends.clients_out.items
