-- What a program in C holds: a value in a block of its own that may be freed, or nothing (vocabulary of contracts).
use base.Fml.{Fml, feq}
use denote.RattleType.{RattleType}
use denote.RawPtr.{Ptr, null_ptr}
use Rattle.std.specs.declared.option.Option.{Option}
use Rattle.std.specs.declared.option.Option.TheVariants.{None, Some}
use Rattle.std.specs.declared.alloc.Global.{Global}
use Rattle.std.specs.contracts.impls.GlobalAllocator.TheImpl.{ghosts}
use Rattle.std.specs.Box.Ownership.{box_owns}

abbrev pub heap : Global
heap = record { memory = record { seal = tt } }

abbrev pub held_at : (R : RattleType) → Ptr → Option R.Denot → Fml
held_at R p None = feq Ptr p null_ptr
held_at R p (Some x) = box_owns (ghosts.dealloc_token heap) R p x
