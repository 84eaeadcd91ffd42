-- A screen's information, and the phase that a connection is in after it.
use Rattle.std.specs.Prelude.{ℕ, ℤ, pos, negsuc, ◌+ℤ◌, ◌≤ℤ◌, Option}
use Rattle.share_base.specs.declared.shape.Shape.{Shape}
use Rattle.hello_states.specs.declared.info_fields.InfoFields.{InfoFields}
use Rattle.hello_states.specs.declared.asked.Informed.{Informed}
use Rattle.hello_states.specs.declared.asked.Informed.TheVariants as informed
use Rattle.hello_states.specs.Phases.{Phase}
use Rattle.hello_states.specs.Handshake.{shape_of_info}
use Rattle.hello_states.specs.TypedPhases.{joined_phase, parting_phase}

-- so many pixels from the first one, a number of two bytes, as facts
pub record IsSpan (first : ℤ) (count : ℕ) : Type 0 where
  pub some : pos 1 ≤ℤ pos count
  pub most : pos count ≤ℤ pos 32767
  pub low : negsuc 32767 ≤ℤ first
  pub high : (first +ℤ pos count) ≤ℤ pos 32768

abbrev pub shape_in : InfoFields → Option Shape
shape_in info = shape_of_info info.x info.y info.w info.h

abbrev pub phase_informed : Informed → Phase
phase_informed (informed.Joined j) = joined_phase j
phase_informed (informed.Parting p) = parting_phase p

abbrev pub serial_informed : Informed → ℕ
serial_informed (informed.Joined j) = j.serial
serial_informed (informed.Parting p) = p.serial
