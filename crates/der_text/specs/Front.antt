-- The front that a `Front` is.
use Rattle.der_text.specs.declared.front.Front.{Front}
use Rattle.der_text.specs.Fault.{Front as Found}

-- a front without where it lies in memory
abbrev pub front : Front → Found
front f = record { tag = f.tag; content = f.content.now; after = f.after.now }
