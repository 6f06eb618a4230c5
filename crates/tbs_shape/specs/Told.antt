-- What a part of the reader tells.
use Rattle.tbs_shape.specs.declared.fault.BodyFault.{BodyFault}
use Rattle.tbs_shape.specs.declared.fault.BodyFault.TheVariants.{Shape, NoMemory}

-- a fault is a bad shape, where this holds, or out of memory
abbrev pub IfShape : BodyFault → Type 0 → Type 0
IfShape Shape P = P
IfShape NoMemory P = Unit {0}
