-- What the programs say.
use Rattle.std.specs.Prelude.{◌≡◌, ℕ, List, ◌++◌, None, string_bytes}
use Rattle.design.specs.declared.refusal.Refusal.{Refusal as Reason}
use Rattle.fabric.specs.Fabrics.{Size}
use Rattle.fabric.specs.Numbers.{size_refusal}
use Rattle.listings.specs.Printed.{size_text}
use Rattle.reading.specs.Faults.{Headed}
use Rattle.streams.specs.Lines.{Playable}
use Rattle.messages.specs.Begun.{refused_text}
use Rattle.commands.specs.declared.said.Said.{Said}
use Rattle.commands.specs.declared.said.Said.TheVariants.{Answer, Refusal}

-- the text begins `refused N at PLACE: `
pub record Refuses (text : List ℕ) : Type 0 where
  pub reason : Reason
  pub words : List ℕ
  pub begins : text ≡ refused_text reason ++ words

-- the text is a listing of a fabric of that size, which there is
pub record Lists (z : Size) (text : List ℕ) : Type 0 where
  pub some : size_refusal z ≡ None
  pub rest : List ℕ
  pub begins : text ≡ size_text z ++ rest

-- the first text begins with the size of a fabric, and each line of the second has a name and a number for so many inputs
pub record Plays (listing stream : List ℕ) : Type 0 where
  pub size : Size
  pub headed : Headed listing size
  pub inputs : ℕ
  pub playable : Playable inputs stream

abbrev pub SaysRefusal : Said → Type 0
SaysRefusal (Answer text) = ⊥
SaysRefusal (Refusal text) = Refuses (string_bytes text)

abbrev pub SaysCompiled : Size → Said → Type 0
SaysCompiled z (Answer text) = Lists z (string_bytes text)
SaysCompiled z (Refusal text) = Refuses (string_bytes text)

abbrev pub SaysPlayed : (inputs : ℕ) (stream : List ℕ) → Said → Type 0
SaysPlayed inputs stream (Answer text) = Playable inputs stream
SaysPlayed inputs stream (Refusal text) = Refuses (string_bytes text)

abbrev pub SaysShown : (listing stream : List ℕ) → Said → Type 0
SaysShown listing stream (Answer text) = Plays listing stream
SaysShown listing stream (Refusal text) = Refuses (string_bytes text)
