-- Laws of readings of texts.
use Rattle.chain_model.specs.Sources.{AreReadings, Readings}

-- each JSON text has its value or its fault, bytes are UTF-8 or stop somewhere to begin a text, and a text is an
-- expression or has its fault
abbrev pub ReadingsExist : Type 0
ReadingsExist = (read : Readings) × AreReadings read
