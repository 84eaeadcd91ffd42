-- What fields are made of.

-- an integer of one, two or four bytes, a signed one of two, a clipboard's number, the number of a
-- part of one, a string, a list of integers of four bytes
pub data Kind : Type 0 where
  byte : Kind
  half : Kind
  signed : Kind
  word : Kind
  clip : Kind
  mark : Kind
  text : Kind
  words : Kind
