mod WorkedWords
