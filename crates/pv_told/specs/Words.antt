-- What is told, without a copy of what was reported.
use Rattle.std.specs.Prelude.{ℕ, ◌||◌, Bool, false, List, [], ◌∷◌, map}
use Rattle.pv_protocol.specs.Lines as lines
use Rattle.pv_protocol.specs.Lines.{Line}
use Rattle.pv_site.specs.Values.{note_of}
use Rattle.pv_mail.specs.Answers as answers
use Rattle.pv_mail.specs.declared.asked.Asker.{Asker}
use Rattle.pv_told.specs.Along.{is_same_asker}
use Rattle.pv_told.specs.declared.told.Told.{Told}
use Rattle.pv_told.specs.declared.word.Word.{Word}
use Rattle.pv_told.specs.declared.word.Word.TheVariants as word

-- what it prints, at the site of this number
abbrev pub printed : ℕ → Word → Line
printed me word.Down = Line.down me
printed me (word.Note note) = lines.line_of me (note_of note.now)

-- what the client is told
abbrev pub told_of : ℕ → Told → answers.Told
told_of me told = record { asker = told.asker; line = printed me told.word }

abbrev pub told_in : ℕ → List Told → List answers.Told
told_in me told = map (told_of me) told

-- Whether the request is one of these.
abbrev pub has_asker : Asker → List Asker → Bool
has_asker asker [] = false
has_asker asker (other ∷ more) = is_same_asker other asker || has_asker asker more
