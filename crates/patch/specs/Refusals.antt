-- The table of refusals: the number of each reason, the layer that gives it, what it points at and where it is placed.
use Rattle.std.specs.Prelude.{◌≡◌, ℕ, ◌≤◌, Bool, true, ◌&&◌, ◌||◌, ◌⊎◌, List, codes, ◌==◌, nat_lt}
use Rattle.patch.specs.declared.refusals.Cause.{Cause}
use Rattle.patch.specs.declared.refusals.Cause.TheVariants as cause
use Rattle.patch.specs.declared.refusals.Layer.{Layer}
use Rattle.patch.specs.declared.refusals.Layer.TheVariants as layer
use Rattle.patch.specs.declared.refusals.Reason.{Reason}
use Rattle.patch.specs.declared.refusals.Reason.TheVariants.{
  UnlawfulIdentifier,
  BadHeading,
  BadValueLine,
  UnlawfulContent,
  BadCount,
  AlreadyStands,
  ForbiddenName,
  RepeatedEntry,
  UnknownPatch,
  UnknownLine,
  NoRoom,
  DoesNotStand,
  IsNamed,
  ShortMemory,
  BadScript,
}
use Rattle.patch.specs.declared.refusals.Refusal.{Refusal}

abbrev pub number_of : Reason → ℕ
number_of UnlawfulIdentifier = 1
number_of BadHeading = 2
number_of BadValueLine = 3
number_of UnlawfulContent = 4
number_of BadCount = 5
number_of AlreadyStands = 6
number_of ForbiddenName = 7
number_of RepeatedEntry = 8
number_of UnknownPatch = 9
number_of UnknownLine = 10
number_of NoRoom = 11
number_of DoesNotStand = 12
number_of IsNamed = 13
number_of ShortMemory = 14
number_of BadScript = 15

abbrev pub layer_of : Reason → Layer
layer_of UnlawfulIdentifier = layer.Reader
layer_of BadHeading = layer.Reader
layer_of BadValueLine = layer.Reader
layer_of UnlawfulContent = layer.Reader
layer_of BadCount = layer.Reader
layer_of AlreadyStands = layer.Volume
layer_of ForbiddenName = layer.Volume
layer_of RepeatedEntry = layer.Volume
layer_of UnknownPatch = layer.Volume
layer_of UnknownLine = layer.Volume
layer_of NoRoom = layer.Store
layer_of DoesNotStand = layer.Volume
layer_of IsNamed = layer.Volume
layer_of ShortMemory = layer.Page
layer_of BadScript = layer.Tool

-- the word for a layer
abbrev pub layer_name : Layer → List ℕ
layer_name layer.Reader = codes "reader"
layer_name layer.Volume = codes "volume"
layer_name layer.Store = codes "store"
layer_name layer.Page = codes "page"
layer_name layer.Tool = codes "tool"

-- what a cause is
pub data Sort : Type 0 where
  nothing : Sort
  a_patch : Sort
  a_line : Sort

abbrev pub sort_of : {I : Type 0} → Cause I → Sort
sort_of cause.Nothing = nothing
sort_of (cause.Patch patch) = a_patch
sort_of (cause.Line name) = a_line

abbrev pub points_at : Reason → Sort
points_at UnlawfulIdentifier = nothing
points_at BadHeading = nothing
points_at BadValueLine = nothing
points_at UnlawfulContent = nothing
points_at BadCount = nothing
points_at AlreadyStands = a_patch
points_at ForbiddenName = a_line
points_at RepeatedEntry = a_line
points_at UnknownPatch = a_patch
points_at UnknownLine = a_line
points_at NoRoom = nothing
points_at DoesNotStand = a_patch
points_at IsNamed = a_patch
points_at ShortMemory = nothing
points_at BadScript = nothing

-- a value line of a patch text: line 1 is the heading, and there are at most 128
abbrev pub ValueLine : ℕ → Type 0
ValueLine p = (2 ≤ p) × (p ≤ 129)

abbrev pub Placed : Reason → ℕ → Type 0
Placed UnlawfulIdentifier p = p ≡ 0
Placed BadHeading p = p ≡ 1
Placed BadValueLine p = ValueLine p
Placed UnlawfulContent p = ValueLine p
Placed BadCount p = (p ≡ 2) ⊎ (p ≡ 130)
Placed AlreadyStands p = p ≡ 0
Placed ForbiddenName p = ValueLine p
Placed RepeatedEntry p = ValueLine p
Placed UnknownPatch p = ValueLine p
Placed UnknownLine p = ValueLine p
Placed NoRoom p = (1 ≤ p) × (p ≤ 3)
Placed DoesNotStand p = p ≡ 0
Placed IsNamed p = p ≡ 0
Placed ShortMemory p = (26 ≤ p) × (p ≤ 28698)
Placed BadScript p = p ≤ 32768

-- which reasons each call gives: apply 1 to 11, unapply 1, 12 and 13, page 14
abbrev pub apply_gives : Reason → Bool
apply_gives n = nat_lt (number_of n) 12

abbrev pub unapply_gives : Reason → Bool
unapply_gives n = number_of n == 1 || (nat_lt 11 (number_of n) && nat_lt (number_of n) 14)

abbrev pub page_gives : Reason → Bool
page_gives n = number_of n == 14

-- a refusal is one of the table's, for a reason that the call gives
abbrev pub Tabled : {I : Type 0} → (Reason → Bool) → Refusal I → Type 0
Tabled gives r =
    (gives r.reason ≡ true)
    × (r.layer ≡ layer_of r.reason)
    × (sort_of r.cause ≡ points_at r.reason)
    × Placed r.reason r.place
